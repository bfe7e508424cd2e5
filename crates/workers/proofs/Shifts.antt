-- desks in a list, each at the index of its number
use Rattle.std.proofs.Common.{◌≡◌, ℕ, ◌<◌, Bool, true, List, length, map, refl, sym, ap, subst, ◌∙◌, Option, Some, None, IfSome, option_map, slice_get}
use Rattle.std.proofs.Common.{slice_index_or}
use Rattle.std.{specs.List.list_all, proofs.lemmas.Option.{slice_get-map, slice_get_read, slice_get_within, slice_get-get_or, get_or_from_slice_get}}
use Rattle.{std.proofs.lemmas.List.{Folds.list_all-map, Sums.AllPass-from_list_all}, desks.specs.{Met.{AreIdle, IsIdleDesk}, Views.{AreNew, DeskView}}}
use Rattle.{desks.specs.Views.{IsDeskOf, RoomView, new_desk}, turns.specs.{Runs.is_available, System.{SystemOver, system_of}}, workers.specs.Workers.AreAtWork}

-- what holds of the item at a place holds of that item
read_off : {X : Type 0} (Q : X → Type 0) (xs : List X) (i : ℕ) (x : X) → i < length xs → x ≡ slice_index_or xs i x → IfSome (slice_get xs i) Q → Q x
read_off Q xs i x lt here all = subst (λ o. IfSome o Q) (slice_get_read xs (length xs) i x refl lt here) all

module _ {Setting Lock Job Reply Effect : Type 0} where
  -- a desk of a room that has just opened
  pub new_desk_at : (room : RoomView Setting) (desks : List (DeskView Setting Lock Job Reply Effect)) (i : ℕ) (desk : DeskView Setting Lock Job Reply Effect)
      → AreNew desks room → i < length desks → desk ≡ slice_index_or desks i desk → desk ≡ new_desk room i
  new_desk_at room desks i desk new lt here = read_off (λ d. d ≡ new_desk room i) desks i desk lt here (new.each i)

  pub is_desk : (room : RoomView Setting) (setting : Setting) (i : ℕ) (desk : DeskView Setting Lock Job Reply Effect) → room.setting ≡ setting
      → desk ≡ new_desk room i → IsDeskOf desk room setting
  is_desk room setting i desk is e = record { table_is = ap (λ d. d.table) e; desk_is = ap (λ d. d.setting) e ∙ is; room_is = is }

-- what holds of a part of each item of a list holds in the list of these parts
pub of_each : {X Y : Type 0} (f : X → Y) (P : ℕ → Y → Type 0) (xs : List X) → ((i : ℕ) (d : X) → i < length xs → P i (f (slice_index_or xs i d))) → (i : ℕ)
    → IfSome (slice_get (map f xs) i) (P i)
of_each {X} f P xs each i = subst (λ o. IfSome o (P i)) (sym (slice_get-map f xs i)) (at (slice_get xs i) refl) where
  at : (o : Option X) → slice_get xs i ≡ o → IfSome (option_map f o) (P i)
  at None none = tt
  at (Some x) some = subst (λ o. IfSome (option_map f o) (P i)) (sym (slice_get-get_or xs i x lt) ∙ some) (each i x lt) where
    lt : i < length xs
    lt = slice_get_within xs i x some

-- what holds of two parts of each item of a list
pub of_both : {X Y Z : Type 0} (f : X → Y) (g : X → Z) (P : ℕ → Y → Z → Type 0) (xs : List X)
    → ((i : ℕ) (d : X) → i < length xs → P i (f (slice_index_or xs i d)) (g (slice_index_or xs i d))) → (i : ℕ)
    → IfSome (slice_get (map f xs) i) (λ y. IfSome (slice_get (map g xs) i) (P i y))
of_both {X} {Y} {Z} f g P xs each i =
    subst (λ o. IfSome o (λ y. IfSome (slice_get (map g xs) i) (P i y))) (sym (slice_get-map f xs i))
    (subst (λ (p : Option Z). IfSome (option_map f (slice_get xs i)) (λ y. IfSome p (P i y))) (sym (slice_get-map g xs i)) (at (slice_get xs i) refl)) where
      at : (o : Option X) → slice_get xs i ≡ o → IfSome (option_map f o) (λ y. IfSome (option_map g o) (P i y))
      at None none = tt
      at (Some x) some =
          subst (λ o. IfSome (option_map f o) (λ y. IfSome (option_map g o) (P i y))) (sym (slice_get-get_or xs i x lt) ∙ some) (each i x lt) where
            lt : i < length xs
            lt = slice_get_within xs i x some

module _ {Setting Lock Job Reply Effect : Type 0} (S : Setting → SystemOver Lock Job Reply Effect) where
  -- whether a desk is at no job, under its own setting
  abbrev pub is_idle : DeskView Setting Lock Job Reply Effect → Bool
  is_idle desk = is_available (system_of (S desk.setting)) desk.actor

  -- desks of shifts, none of which is at a job
  pub all_idle : {Shift : Type 0} (desk_of : Shift → DeskView Setting Lock Job Reply Effect) (room : RoomView Setting) (setting : Setting) (shifts : List Shift)
      (desks : List (DeskView Setting Lock Job Reply Effect))
      → desks ≡ map desk_of shifts → AreAtWork room setting (map desk_of shifts) → list_all (λ shift. is_idle (desk_of shift)) shifts ≡ true
      → AreIdle (system_of (S setting)) room.table setting desks
  all_idle desk_of room setting shifts desks same there idle i = at (slice_get desks i) refl (subst (AreAtWork room setting) (sym same) there i) where
    all : list_all is_idle desks ≡ true
    all = ap (list_all is_idle) same ∙ list_all-map is_idle desk_of shifts ∙ idle

    at : (o : Option (DeskView Setting Lock Job Reply Effect)) → slice_get desks i ≡ o → IfSome o (λ desk. IsDeskOf desk room setting × (desk.number ≡ i))
        → IfSome o (λ desk. IsIdleDesk (system_of (S setting)) room.table setting i desk)
    at None none here = tt
    at (Some desk) some here = record {
      number_is = here.1;
      table_is = here.0.table_is;
      setting_is = here.0.desk_is;
      idle = subst (λ (s : Setting). is_available (system_of (S s)) desk.actor ≡ true) here.0.desk_is
          (subst (λ d. is_idle d ≡ true) (get_or_from_slice_get desks i desk desk some)
          (AllPass-from_list_all is_idle desks all i desk (slice_get_within desks i desk some)));
    }

-- what holds of each item of a list, and so of a part of it, holds in the list of these parts
pub of_items : {X Y : Type 0} (f : X → Y) (Q : X → Type 0) (P : Y → Type 0) (xs : List X) → ((x : X) → Q x → P (f x)) → ((i : ℕ) → IfSome (slice_get xs i) Q)
    → (i : ℕ) → IfSome (slice_get (map f xs) i) P
of_items {X} f Q P xs follows each i = subst (λ o. IfSome o P) (sym (slice_get-map f xs i)) (at (slice_get xs i) (each i)) where
  at : (o : Option X) → IfSome o Q → IfSome (option_map f o) P
  at None holds = tt
  at (Some x) holds = follows x holds

-- what holds of the item at each place of a list
pub at_each : {X : Type 0} (P : ℕ → X → Type 0) (xs : List X) → ((i : ℕ) (d : X) → i < length xs → P i (slice_index_or xs i d)) → (i : ℕ)
    → IfSome (slice_get xs i) (P i)
at_each {X} P xs each i = at (slice_get xs i) refl where
  at : (o : Option X) → slice_get xs i ≡ o → IfSome o (P i)
  at None none = tt
  at (Some x) some = subst (P i) (get_or_from_slice_get xs i x x some) (each i x lt) where
    lt : i < length xs
    lt = slice_get_within xs i x some
