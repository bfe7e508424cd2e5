-- Each move keeps the rule of the queue.
use Rattle.std.proofs.Common.{◌≡◌, ℕ, ◌+◌, ◌-◌, ◌<◌, List, [], ◌∷◌, ◌++◌, set, sym, refl, ap, ◌∙◌, ⊎_elim, arith, sum_by, flat_map, length, length-append}
use mathlib.Core.Option.{some, some-ne-none}
use lib.ListN.{get_elem?}
use Rattle.std.proofs.lemmas.List.{Sums.{sum_by-cons, sum_by-append, sum_by_push}, Elements.{All-nil, All-push, All-head, All-tail}}
use Rattle.{crossbeam_channel.specs.Fifo.{Pushes, Pops, Forks, Merges, Learns, Held}, atomic_table.proofs.Lists.at_set}
use Rattle.fair_queue.specs.{declared.rule.Hand.Hand, Items.SameItems, Parts.all_parts, Rule.{hand, Balanced, Knows}}
use Rattle.fair_queue.proofs.{Totals.{total_set, alone_total, idle_set, idle_push}, Weights.{SameItems-length, sum_by-flat_map}}

-- what passes put and took, by weights
module _ {X : Type 0} (h : X → ℕ) where
  abbrev parts_of : Hand X → ℕ
  parts_of v = v.parts

  abbrev put_weight : Hand X → ℕ
  put_weight v = sum_by h v.put

  abbrev taken_weight : Hand X → ℕ
  taken_weight v = sum_by h v.taken

module _ {X : Type 0} (items : List X) (views : List (Hand X)) where
  abbrev all_put : List X
  all_put = flat_map (λ (v : Hand X). v.put) views

  abbrev all_taken : List X
  all_taken = flat_map (λ (v : Hand X). v.taken) views

  -- the balance by weights, and the balance of lists
  abbrev Weighs : Type 0
  Weighs = (h : X → ℕ) → sum_by (put_weight h) views ≡ sum_by (taken_weight h) views + sum_by h items

  weighs : SameItems all_put (all_taken ++ items) → Weighs
  weighs same h =
      let whole = same h in
      omega (arith, sum_by-flat_map h (λ (v : Hand X). v.put) views, sum_by-flat_map h (λ (v : Hand X). v.taken) views, sum_by-append h all_taken items)

  balances : Weighs → SameItems all_put (all_taken ++ items)
  balances weigh h =
      let whole = weigh h in
      omega (arith, sum_by-flat_map h (λ (v : Hand X). v.put) views, sum_by-flat_map h (λ (v : Hand X). v.taken) views, sum_by-append h all_taken items)

module _ {X : Type 0} (sound : X → Type 0) where
  pub begins : Balanced sound [] (hand {X = X} all_parts [] [] ∷ [])
  begins =
      record {
        parts = refl;
        balance = λ h. refl;
        idle = idle_push [] (hand all_parts [] []) (λ none. (refl, refl))
            (λ p u at none. absurd (some-ne-none u (sym at)));
        sound_items = All-nil sound;
      }

  pub puts : (n pass : ℕ) (v : Hand X) (x : X) → sound x → 0 < v.parts
      → Pushes (Balanced sound) n pass v x (λ w. w ≡ hand v.parts (v.put ++ x ∷ []) v.taken)
  puts n pass v x ok part items views room b at =
      let w : Hand X = hand v.parts (v.put ++ x ∷ []) v.taken in (
        w,
        record {
          parts =
              (let total = total_set (λ (u : Hand X). u.parts) views pass v w at in
              let parts = b.parts in
              omega arith);
          balance = balances (items ++ x ∷ []) (set views pass w) (λ h.
              let put = total_set (put_weight h) views pass v w at in
              let taken = total_set (taken_weight h) views pass v w at in
              let whole = weighs items views b.balance h in
              omega (arith, sum_by_push h v.put x, sum_by_push h items x));
          idle = idle_set views pass w (λ none. absurd (omega arith)) b.idle;
          sound_items = All-push sound items x b.sound_items ok;
        },
        refl,
      )

  pub takes : (pass : ℕ) (v : Hand X) → 0 < v.parts
      → Pops (Balanced sound) pass v
      (λ x w. (w ≡ hand v.parts v.put (v.taken ++ x ∷ [])) × sound x)
  takes pass v part x items views b at =
      let w : Hand X = hand v.parts v.put (v.taken ++ x ∷ []) in (
        w,
        record {
          parts =
              (let total = total_set (λ (u : Hand X). u.parts) views pass v w at in
              let parts = b.parts in
              omega arith);
          balance = balances items (set views pass w) (λ h.
              let put = total_set (put_weight h) views pass v w at in
              let taken = total_set (taken_weight h) views pass v w at in
              let whole = weighs (x ∷ items) views b.balance h in
              omega (arith, sum_by_push h v.taken x, sum_by-cons h x items));
          idle = idle_set views pass w (λ none. absurd (omega arith)) b.idle;
          sound_items = All-tail sound x items b.sound_items;
        },
        (refl, All-head sound x items b.sound_items),
      )

  pub forks : (pass : ℕ) (v : Hand X) → 1 < v.parts
      → Forks (Balanced sound) pass v (hand (v.parts - 1) v.put v.taken) (hand 1 [] [])
  forks pass v some_parts items views b at =
      let w : Hand X = hand (v.parts - 1) v.put v.taken in
      let u : Hand X = hand 1 [] [] in
      let rest : List (Hand X) = set views pass w in
      record {
        parts =
            (let total = total_set (λ (y : Hand X). y.parts) views pass v w at in
            let parts = b.parts in
            omega (arith, sum_by_push (λ (y : Hand X). y.parts) rest u));
        balance = balances items (rest ++ u ∷ []) (λ h.
            let put = total_set (put_weight h) views pass v w at in
            let taken = total_set (taken_weight h) views pass v w at in
            let whole = weighs items views b.balance h in
            omega (arith, sum_by_push (put_weight h) rest u, sum_by_push (taken_weight h) rest u));
        idle = idle_push rest u (λ none. (refl, refl))
            (idle_set views pass w (λ none. absurd (omega arith)) b.idle);
        sound_items = b.sound_items;
      }

  pub merges : (pass : ℕ) (v : Hand X) (other : ℕ) (u : Hand X)
      → Merges (Balanced sound) pass v other u
      (hand (v.parts + u.parts) (v.put ++ u.put) (v.taken ++ u.taken)) (hand 0 [] [])
  merges pass v other u items views b at two at' =
      let w : Hand X = hand (v.parts + u.parts) (v.put ++ u.put) (v.taken ++ u.taken) in
      let spent : Hand X = hand 0 [] [] in
      let rest : List (Hand X) = set views pass w in
      let was : get_elem? views other ≡ some u =
      ⊎_elim (λ x. absurd (two x.0)) (λ x. x.1) (at_set views pass other w u at') in
      record {
        parts =
            (let total = total_set (λ (y : Hand X). y.parts) views pass v w at in
            let left = total_set (λ (y : Hand X). y.parts) rest other u spent at' in
            let parts = b.parts in
            omega arith);
        balance = balances items (set rest other spent) (λ h.
            let put = total_set (put_weight h) views pass v w at in
            let put_left = total_set (put_weight h) rest other u spent at' in
            let taken = total_set (taken_weight h) views pass v w at in
            let taken_left = total_set (taken_weight h) rest other u spent at' in
            let whole = weighs items views b.balance h in
            omega (arith, sum_by-append h v.put u.put, sum_by-append h v.taken u.taken));
        idle = idle_set rest other spent (λ none. (refl, refl))
            (idle_set views pass w (λ none.
            let mine = b.idle pass v at (omega arith) in
            let theirs = b.idle other u was (omega arith) in
            (appended mine.0 theirs.0, appended mine.1 theirs.1)) b.idle);
        sound_items = b.sound_items;
      }
    where
      appended : {xs ys : List X} → xs ≡ [] → ys ≡ [] → xs ++ ys ≡ []
      appended p q = λ i. p i ++ q i

  pub learns : (pass : ℕ) (v : Hand X) → Learns (Balanced sound) pass v (Knows sound v)
  learns pass v items views b at all =
      let whole : sum_by (λ (u : Hand X). u.parts) views ≡ v.parts = b.parts ∙ sym all in
      record {
        balance = λ h.
            let put = alone_total (put_weight h) views pass v
            (λ u p at' none. ap (sum_by h) (b.idle p u at' none).0) at whole in
            let taken = alone_total (taken_weight h) views pass v
            (λ u p at' none. ap (sum_by h) (b.idle p u at' none).1) at whole in
            let weigh = weighs items views b.balance h in
            omega (arith, sum_by-append h v.taken items);
        sound_items = b.sound_items;
      }

  -- with every part: a queue that is full holds what was put and not taken
  pub full_length : (v : Hand X) (capacity : ℕ) → v.parts ≡ all_parts
      → Held capacity (Knows sound v) → length v.put ≡ length v.taken + capacity
  full_length v capacity all held =
      let rests = held.2 all in
      let same = SameItems-length v.put (v.taken ++ held.0) rests.balance in
      let few = held.1 in
      omega (arith, length-append v.taken held.0)
