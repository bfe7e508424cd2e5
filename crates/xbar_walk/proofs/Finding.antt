-- what tests found, test by test
use Rattle.std.proofs.Common.{◌≡◌, ℕ, Bool, true, false, List, [], ◌∷◌, ◌++◌, append_assoc, append-nil, refl, sym, ◌∙◌, ap, ◌||◌, codes, if◌then◌else◌}
use Rattle.{std.proofs.lemmas.Grind.flat_map-append, xbar_walk.specs.{Rows.{finds, row_found}, declared.rows.Tested.Tested}}
use Rattle.xbar_step_text.{specs.Shown.{has_any, listed, shown}, proofs.Listed.{any_on, ends_with_none, ends_with_some, listed_on}}

abbrev closed : List ℕ
closed = codes "closed: "

abbrev between : List ℕ
between = codes "; "

-- the invariant of adding what tests found
pub record AreFound (tests : List Tested) (first now : List ℕ) (any : Bool) : Type 0 where
  pub any_is : any ≡ has_any (finds tests)
  pub text_is : now ≡ first ++ listed [] closed between (finds tests)

pub none_found : (first : List ℕ) → AreFound [] first first false
unfolding listed
none_found first = record { any_is = refl; text_is = sym (append-nil first) }

module _ (tests : List Tested) (tested : Tested) (first now : List ℕ) (any : Bool) (so_far : AreFound tests first now any) where
  more : finds (tests ++ tested ∷ []) ≡ finds tests ++ shown tested.place tested.word
  more =
      flat_map-append (λ (t : Tested). shown t.place t.word) tests (tested ∷ [])
      ∙ ap (λ (texts : List (List ℕ)). finds tests ++ texts) (append-nil (shown tested.place tested.word))

  pub one_found : (next lead : List ℕ) (some : Bool) → some ≡ has_any (shown tested.place tested.word) → lead ≡ (if any then between else closed)
      → next ≡ now ++ listed [] lead between (shown tested.place tested.word) → AreFound (tests ++ tested ∷ []) first next (any || some)
  one_found next lead some is leads adds = record {
    any_is =
        ap (λ (b : Bool). b || some) so_far.any_is ∙ ap (λ (b : Bool). has_any (finds tests) || b) is
        ∙ sym (any_on (finds tests) (shown tested.place tested.word)) ∙ ap has_any (sym more);
    text_is =
        adds
        ∙ ap (λ (t : List ℕ). now ++ listed [] t between (shown tested.place tested.word)) leads
        ∙ ap (λ (b : Bool). now ++ listed [] (if b then between else closed) between (shown tested.place tested.word)) so_far.any_is
        ∙ ap (λ (t : List ℕ). t ++ listed [] (if has_any (finds tests) then between else closed) between (shown tested.place tested.word)) so_far.text_is
        ∙ append_assoc first (listed [] closed between (finds tests)) _
        ∙ ap (λ (t : List ℕ). first ++ t) (sym (listed_on closed between (finds tests) (shown tested.place tested.word)))
        ∙ ap (λ (texts : List (List ℕ)). first ++ listed [] closed between texts) (sym more);
  }

module _ (tests : List Tested) (first now : List ℕ) (any : Bool) (all : AreFound tests first now any) where
  pub some_found : any ≡ true → now ≡ first ++ row_found tests
  unfolding row_found
  some_found is = ends_with_some (codes "nothing closed") closed between first now (finds tests) all.text_is (sym is ∙ all.any_is)

  pub nothing_found : (next : List ℕ) → any ≡ false → next ≡ now ++ codes "nothing closed" → next ≡ first ++ row_found tests
  unfolding row_found
  nothing_found next is adds = ends_with_none (codes "nothing closed") closed between first now (finds tests) all.text_is next (sym is ∙ all.any_is) adds
