use Rattle.std.proofs.Common.{◌≡◌, ◌<◌, ◌≤◌, ◌+◌, ◌-◌, ◌==◌, ℕ, zero, suc, Bool, true, false, List, [], ◌∷◌, ◌++◌, length, Some, None, refl, ap, subst, ◌∙◌}
use Rattle.std.proofs.Common.{arith, add-one, Option, ◌||◌, if◌then◌else◌, append-nil}
use Rattle.csv.specs.Machine.{Read, ends_at_end, fields_after, is_end, in_field, next_record, start_field, start_record, step}
use Rattle.csv.specs.{Reading.{Reached, default_config, records, records_from}, declared.parser.{State.State, Action.Action, Config.Config}}
use Rattle.csv.specs.declared.parser.State.TheVariants as st
use Rattle.csv.specs.declared.parser.Action.TheVariants as act

-- each record, and then those after it
pub records-reached : (cfg : Config) (rs : List (List (List ℕ))) (n m : ℕ) (s s2 : State) (xs ys : List ℕ) → n ≡ length rs + m
    → Reached cfg s xs rs s2 ys → records_from cfg n s xs ≡ rs ++ records_from cfg m s2 ys
unfolding Reached records_from
records-reached cfg [] n m s s2 xs ys e h = rw (h.0, h.1) (ap (λ (k : ℕ). records_from cfg k s2 ys) (omega arith))
records-reached cfg (r ∷ rs) zero m s s2 xs ys e h = absurd (omega arith)
records-reached cfg (r ∷ rs) (suc n) m s s2 xs ys e h =
    let (p, next, same, more) = h in
    let rest = records-reached cfg rs n m p.1 s2 p.2 ys (omega arith) more in
    rw (next, same) (ap (λ (tail : List (List (List ℕ))). p.0 ∷ tail) rest)

-- no record is left if none is next
no_records : (cfg : Config) (m : ℕ) (s : State) (ys : List ℕ) → next_record cfg s [] [] ys ≡ None → records_from cfg m s ys ≡ []
unfolding records_from
no_records cfg zero s ys e = refl
no_records cfg (suc m) s ys e = rw e refl

-- a byte that ends a record leaves the reader outside all records
abbrev EndsOutside : State × Action → Type 0
EndsOutside p = is_end p.1 ≡ true → ends_at_end p.0 ≡ false

either : (b : Bool) (p q : State × Action) → EndsOutside p → EndsOutside q → EndsOutside (if b then p else q)
either true p q left right = left
either false p q left right = right

after_end-outside : (b : Bool) → ends_at_end (if b then st.AfterCr else st.StartRecord) ≡ false
after_end-outside true = refl
after_end-outside false = refl

in_field-outside : (c : ℕ) → EndsOutside (in_field default_config c)
in_field-outside c =
    either (c == 44) (st.StartField, act.EndField) _ (λ e. cc)
    (either ((c == 13) || (c == 10)) _ (st.InField, act.Copy) (λ e. after_end-outside (c == 13)) (λ e. cc))

start_field-outside : (c : ℕ) → EndsOutside (start_field default_config c)
start_field-outside c = either (c == 34) (st.InQuoted, act.Skip) _ (λ e. cc) (in_field-outside c)

start_record-outside : (c : ℕ) → EndsOutside (start_record default_config c)
start_record-outside c = either ((c == 13) || (c == 10)) (st.StartRecord, act.Skip) _ (λ e. cc) (start_field-outside c)

step-outside : (s : State) (c : ℕ) → EndsOutside (step default_config s c)
step-outside st.StartRecord c = start_record-outside c
step-outside st.StartField c = start_field-outside c
step-outside st.InField c = in_field-outside c
step-outside st.InQuoted c = either (c == 34) (st.AfterQuote, act.Skip) (st.InQuoted, act.Copy) (λ e. cc) (λ e. cc)
step-outside st.InEscape c = λ e. cc
step-outside st.AfterQuote c = either (c == 34) (st.InQuoted, act.Copy) _ (λ e. cc) (in_field-outside c)
step-outside st.InComment c = either (c == 10) (st.StartRecord, act.Skip) (st.InComment, act.Skip) (λ e. cc) (λ e. cc)
step-outside st.AfterCr c = either (c == 10) (st.StartRecord, act.Skip) _ (λ e. cc) (start_record-outside c)

-- reading a record leaves no more bytes than before, and fewer if the record wasn't begun before
abbrev Takes : ℕ → State → Read → Type 0
Takes size s p = (length p.2 ≤ size) × (ends_at_end p.1 ≡ false) × (ends_at_end s ≡ false → length p.2 < size)

same_read : (p q : Read) → Some p ≡ Some q → p ≡ q
same_read p q e = cc

takes_at_end : (s : State) (b : Bool) (fields : List (List ℕ)) (p : Read) → ends_at_end s ≡ b
    → (if b then Some (fields, st.StartRecord, []) else None) ≡ Some p → Takes 0 s p
takes_at_end s true fields p begun e =
    subst (λ (q : Read). Takes 0 s q) (same_read (fields, st.StartRecord, []) p e) (omega arith, refl, (λ outside. cc))
takes_at_end s false fields p begun e = cc

takes_byte : (s next : State) (b : Bool) (fields : List (List ℕ)) (rest : List ℕ) (more : Option Read) (p : Read)
    → (b ≡ true → ends_at_end next ≡ false) → (more ≡ Some p → Takes (length rest) next p)
    → (if b then Some (fields, next, rest) else more) ≡ Some p → Takes (length rest + 1) s p
takes_byte s next true fields rest more p outside go e =
    subst (λ (q : Read). Takes (length rest + 1) s q) (same_read (fields, next, rest) p e) (omega arith, outside refl, (λ begun. omega arith))
takes_byte s next false fields rest more p outside go e =
    let h = go e in
    (omega arith, h.1, (λ begun. omega arith))

record_takes_bytes : (xs : List ℕ) (s : State) (fields : List (List ℕ)) (field : List ℕ) (p : Read)
    → next_record default_config s fields field xs ≡ Some p → Takes (length xs) s p
unfolding next_record
record_takes_bytes [] s fields field p e = takes_at_end s (ends_at_end s) (fields ++ (field ∷ [])) p refl e
record_takes_bytes (c ∷ rest) s fields field p e =
    rw (← add-one (length rest)) (takes_byte s (step default_config s c).0 (is_end (step default_config s c).1)
    (fields_after (step default_config s c).1 fields field) rest _ p
    (step-outside s c) (record_takes_bytes rest (step default_config s c).0 _ _ p) e)

-- there are at most as many records as bytes
pub reached_takes_bytes : (rs : List (List (List ℕ))) (s s2 : State) (xs ys : List ℕ) → ends_at_end s ≡ false
    → Reached default_config s xs rs s2 ys → length rs + length ys ≤ length xs
unfolding Reached
reached_takes_bytes [] s s2 xs ys outside h = rw h.1 (omega arith)
reached_takes_bytes (r ∷ rs) s s2 xs ys outside h =
    let (p, next, same, more) = h in
    let (_, after, less) = record_takes_bytes xs s [] [] p next in
    let fewer = reached_takes_bytes rs p.1 s2 p.2 ys after more in
    let shorter = less outside in
    omega arith

-- a text's records begin with those that are reached
pub records_begin : (rs : List (List (List ℕ))) (s2 : State) (xs ys : List ℕ) → Reached default_config st.StartRecord xs rs s2 ys
    → records default_config xs ≡ rs ++ records_from default_config (length xs + 1 - length rs) s2 ys
records_begin rs s2 xs ys h =
    let fewer = reached_takes_bytes rs st.StartRecord s2 xs ys refl h in
    records-reached default_config rs (length xs + 1) (length xs + 1 - length rs) st.StartRecord s2 xs ys (omega arith) h

-- and they are all records, if no more is next
pub records_are : (rs : List (List (List ℕ))) (s2 : State) (xs ys : List ℕ) → Reached default_config st.StartRecord xs rs s2 ys
    → next_record default_config s2 [] [] ys ≡ None → records default_config xs ≡ rs
records_are rs s2 xs ys h none =
    records_begin rs s2 xs ys h ∙ ap (λ (more : List (List (List ℕ))). rs ++ more) (no_records default_config _ s2 ys none) ∙ append-nil rs
