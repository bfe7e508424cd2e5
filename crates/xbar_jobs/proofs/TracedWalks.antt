-- walks that make steps of their own, once a calling line's path was traced
use Rattle.std.proofs.Common.{◌≡◌, ℕ, List, [], ap, sym, subst, ◌∙◌, Option, Result, Ok, Err}
use Rattle.{attempts.proofs.Points.gone_through, xbar_equip.specs.{Conn.conn_eq, Len.Line, declared.path.Path.Path}}
use Rattle.xbar_jobs.specs.{Script.{WalkState, Wanted, walk_on_words, walk}, Tracing.{HasTraced, approach, trace}, declared.party.Party.Party}
use Rattle.xbar_jobs.proofs.WalksOnWords.{comes, found_now, grown, known}

-- who was approached is approached again by no step
pub approached_there : (line : Line) (calling : Party) (state : WalkState) (words : List ℕ) → walk state.seen (approach line) ≡ Ok calling
    → comes (Ok calling) state words ≡ walk_on_words [] (approach line) state words
approached_there line calling state words is = sym (known (approach line) state words calling is)

abbrev found_or : {A : Type 0} → A → Result A Wanted → A
found_or other (Ok found) = found
found_or other (Err wanted) = other

-- and a path that was traced is traced again by none
pub traced_there : (line : Line) (calling party : Party) (own : Option Path) (state : WalkState) (words : List ℕ) → HasTraced line calling own state.seen
    → walk state.seen (approach line) ≡ Ok party → comes (Ok own) state words ≡ walk_on_words [] (trace party) state words
traced_there line calling party own state words has is =
    let one : calling ≡ party = ap (λ (r : Result Party Wanted). found_or calling r) (sym has.approached ∙ is) in
    sym (known (trace party) state words own (subst (λ (p : Party). walk state.seen (trace p) ≡ Ok own) one has.traced))

-- what is traced now was
pub traced_now : (line : Line) (calling : Party) (own : Option Path) (state more : WalkState) (words after : List ℕ)
    → walk state.seen (approach line) ≡ Ok calling → comes (Ok own) more after ≡ walk_on_words [] (trace calling) state words
    → HasTraced line calling own more.seen
traced_now line calling own state more words after approached traced = record {
  approached = gone_through conn_eq state.seen more.seen (approach line) calling (grown (trace calling) state more words after (Ok own) traced) approached;
  traced = found_now (trace calling) state more words after (Ok own) traced;
}
