-- protected words that show a set of paths have 64 bits
use Rattle.std.proofs.Common.{◌≡◌, ℕ, ◌-◌, ◌<◌, ◌≤◌, ◌^◌, bit_and, inl, inr, refl, sym, ◌∙◌, subst, arith, ◌⊎◌, Option, Some, None, List, slice_index, min}
use Rattle.std.proofs.Common.{if◌then◌else◌}
use Rattle.std.{specs.Int.bit_at, proofs.lemmas.{Bool.cases_lt, Nat.{and_le_r, Bits.{bit_at-lt, bit_at_and, bit_at_ones, same_from_bits}}}}
use Rattle.xbar_equip.specs.Word.{Word, IsWord, LineSwitch, LineJunctor, TrunkSwitch, TrunkJunctor, GroupWord, ConnWord, TurnWord, protector, word_number}
use Rattle.{xbar_equip.specs.declared.{conn.Conn.Conn, path.Path.Path}, xbar_match.{specs.Switches.shape_at, proofs.OneCrosspoint.no_more-lt}}
use Rattle.xbar_plan.{specs.{Lawful.IsLawful, Tables.{Tables, member_at}, declared.group.Member.Member}, proofs.LawfulPlans.member-numbers}
use Rattle.xbar_jobs.{specs.Office.{GroupShows, Protects, ShowsOffice}, proofs.BusyMembers.busy_of}

-- a number that has no bit from 64 on has 64 bits
no_bits_past : (word : ℕ) → ((index : ℕ) → 64 ≤ index → bit_at word index ≡ 0) → word < 2 ^ 64
no_bits_past word none =
    let masked : word ≡ bit_and word (2 ^ 64 - 1) = same_from_bits word (bit_and word (2 ^ 64 - 1)) same in
    let below : bit_and word (2 ^ 64 - 1) ≤ 2 ^ 64 - 1 = and_le_r word (2 ^ 64 - 1) in
    omega arith where
      kept : (index : ℕ) → (index < 64) ⊎ (64 ≤ index) → bit_at word index ≡ min (bit_at word index) (bit_at (2 ^ 64 - 1) index)
      kept index (inl low) = omega (arith, bit_at_ones 64 index low, bit_at-lt word index)
      kept index (inr high) = omega (arith, none index high)

      same : (index : ℕ) → bit_at word index ≡ bit_at (bit_and word (2 ^ 64 - 1)) index
      same index = kept index (cases_lt index 64) ∙ sym (bit_at_and word (2 ^ 64 - 1) index)

module _ (plan : Tables) (laws : IsLawful plan) (paths : List Path) where
  -- a group has no member from 40 on
  group_below : (number word : ℕ) → GroupShows plan paths number word → word < 2 ^ 64
  group_below number word shows = no_bits_past word (λ index high. at index high (member_at plan number index) refl (shows index)) where
    at : (index : ℕ) → 64 ≤ index → (found : Option Member) → member_at plan number index ≡ found →
        bit_at word index ≡ (if busy_of paths found then 1 else 0) → bit_at word index ≡ 0
    at index high None is clear = clear
    at index high (Some member) is bit = absurd (omega (arith, (member-numbers plan laws number index member is).1))

  module _ (words : List ℕ) (shows : ShowsOffice plan words paths) where
    -- no bit above the fields of a switch is set
    switch_below : (n : ℕ) → n < 400 → slice_index words n < 2 ^ 64
    switch_below n low = no_more-lt (shape_at n) (slice_index words n) (shows.switches.switch n low).above

    word_below : (w : Word) (conn : Conn) → IsWord w → protector w ≡ Some conn → slice_index words (word_number w) < 2 ^ 64
    word_below (LineSwitch frame switch) conn is e = switch_below (word_number (LineSwitch frame switch)) (omega arith)
    word_below (LineJunctor frame channel) conn is e = switch_below (word_number (LineJunctor frame channel)) (omega arith)
    word_below (TrunkSwitch frame switch) conn is e = switch_below (word_number (TrunkSwitch frame switch)) (omega arith)
    word_below (TrunkJunctor frame channel) conn is e = switch_below (word_number (TrunkJunctor frame channel)) (omega arith)
    word_below (GroupWord group) conn is e = group_below group _ (shows.groups group is)
    word_below (ConnWord c) conn is e = cc
    word_below TurnWord conn is e = cc

    pub shown_below : (conn : Conn) (number : ℕ) → Protects conn number → slice_index words number < 2 ^ 64
    shown_below conn number p =
        subst (λ (n : ℕ). slice_index words n < 2 ^ 64) p.named (word_below p.word conn p.there p.protects)
