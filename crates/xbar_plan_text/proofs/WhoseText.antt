use Rattle.std.proofs.Common.{◌≡◌, ℕ, ◌+◌, ◌-◌, ◌*◌, ◌/◌, ◌%◌, ◌<◌, Bool, true, false, List, refl, sym, ap, subst, arith, Some, None, Result, Ok, Err, IfOk}
use Rattle.std.proofs.Common.{◌&&◌, if◌then◌else◌, bytes_eq, nat_lt, ltb-true, lt-ltb}
use Rattle.{std.{specs.Result.result_ok, proofs.lemmas.Slice.Eq.bytes_eq-Decides}, xbar_equip.specs.Len.{Line, IsLine, is_line, line_text}}
use Rattle.xbar_equip.specs.{Ten.{TrunkPlace, IsTrunkPlace, is_trunk_place, place_text}, Link.{Link, IsLink, is_link, link_text}, DirNo.{IsDirNo, dir_no_text}}
use Rattle.xbar_equip.specs.declared.link.LinkKind.{LinkKind, TheVariants.{LineLink, Junctor, TrunkLink}}
use Rattle.xbar_equip.proofs.{Logic.{both, both_hold}, Ranges.{line_passes, line_in_range, place_passes, place_in_range, link_passes, link_in_range}}
use Rattle.xbar_plan_text.specs.Texts.{whose_text, digit_at, link_kind_of}

-- a type of values with texts from which they can be read back
pub record HasTexts (A : Type 0) : Type 1 where
  pub in_range : A → Bool
  pub InRange : A → Type 0
  pub passes : (x : A) → InRange x → in_range x ≡ true
  pub holds : (x : A) → in_range x ≡ true → InRange x
  pub text_of : A → List ℕ
  pub value_of : List ℕ → A
  pub back : (x : A) → InRange x → value_of (text_of x) ≡ x

module _ {A : Type 0} (has : HasTexts A) where
  open has use {in_range, InRange, passes, holds, text_of, value_of, back}

  same_text : (text : List ℕ) (x : A) → bytes_eq text (text_of x) ≡ true → text ≡ text_of x
  same_text text x e = (bytes_eq-Decides text (text_of x)).0 e

  -- a value in range is read from its text
  pub written_reads : (x : A) → InRange x → whose_text in_range text_of (text_of x) (value_of (text_of x)) ≡ Some x
  written_reads x h =
      subst (λ (v : A). whose_text in_range text_of (text_of x) v ≡ Some x) (sym (back x h))
      (ap (λ (b : Bool). if b then Some x else None) (both_hold (in_range x) (bytes_eq (text_of x) (text_of x)) (passes x h)
      ((bytes_eq-Decides (text_of x) (text_of x)).1 refl)))

  -- the result of a parser that accepts exactly the texts of values in range
  pub parser_reads : {E : Type 0} (text : List ℕ) (r : Result A E) → ((x : A) → InRange x → text ≡ text_of x → r ≡ Ok x)
      → IfOk r (λ x. InRange x × (text ≡ text_of x)) → result_ok r ≡ whose_text in_range text_of text (value_of text)
  parser_reads text (Ok x) reads only =
      sym (subst (λ (t : List ℕ). whose_text in_range text_of t (value_of t) ≡ Some x) (sym only.1) (written_reads x only.0))
  parser_reads {E} text (Err e) reads only = of (in_range (value_of text) && bytes_eq text (text_of (value_of text))) refl where
    of : (b : Bool) → (in_range (value_of text) && bytes_eq text (text_of (value_of text))) ≡ b → None ≡ (if b then Some (value_of text) else None)
    of false is = refl
    of true is =
        let parts = both (in_range (value_of text)) (bytes_eq text (text_of (value_of text))) is in
        let no : Err e ≡ Ok (value_of text) = reads (value_of text) (holds (value_of text) parts.0) (same_text text (value_of text) parts.1) in
        cc

pub less : (n : ℕ) → 48 + n - 48 ≡ n
less n = omega arith

abbrev pub lines : HasTexts Line
lines = record {
  in_range = is_line;
  InRange = IsLine;
  passes = line_passes;
  holds = line_in_range;
  text_of = line_text;
  value_of = λ text. record { frame = digit_at text 0; switch = digit_at text 1; x = 5 * digit_at text 2 + digit_at text 3 };
  back = λ line h.
      let x : 5 * (48 + line.x / 5 - 48) + (48 + line.x % 5 - 48) ≡ line.x = omega arith in
      (λ i. record { frame = less line.frame i; switch = less line.switch i; x = x i });
}

abbrev pub places : HasTexts TrunkPlace
places = record {
  in_range = is_trunk_place;
  InRange = IsTrunkPlace;
  passes = place_passes;
  holds = place_in_range;
  text_of = place_text;
  value_of = λ text. record { frame = digit_at text 0; switch = digit_at text 1; appearance = digit_at text 2 };
  back = λ place h. (λ i. record { frame = less place.frame i; switch = less place.switch i; appearance = less place.appearance i });
}

abbrev pub numbers : HasTexts ℕ
numbers = record {
  in_range = λ number. nat_lt number 10000;
  InRange = IsDirNo;
  passes = λ number h. lt-ltb number 10000 h;
  holds = λ number e. ltb-true number 10000 e;
  text_of = dir_no_text;
  value_of = λ text. 1000 * digit_at text 0 + 100 * digit_at text 1 + 10 * digit_at text 2 + digit_at text 3;
  back = λ number h. four number h;
} where
  four : (n : ℕ) → n < 10000 → 1000 * (48 + n / 1000 % 10 - 48) + 100 * (48 + n / 100 % 10 - 48) + 10 * (48 + n / 10 % 10 - 48) + (48 + n / 1 % 10 - 48) ≡ n
  four n below = omega (arith, below)

-- a link is read back from its text, whatever its kind
abbrev value_at : List ℕ → Link
value_at text = record { kind = link_kind_of text; frame = digit_at text 2; at = digit_at text 3; channel = digit_at text 4 }

pub link_back : (kind : LinkKind) (frame at channel : ℕ)
    → value_at (link_text (record { kind = kind; frame = frame; at = at; channel = channel }))
    ≡ record { kind = kind; frame = frame; at = at; channel = channel }
link_back LineLink frame at channel = λ i. record { kind = LineLink; frame = less frame i; at = less at i; channel = less channel i }
link_back Junctor frame at channel = λ i. record { kind = Junctor; frame = less frame i; at = less at i; channel = less channel i }
link_back TrunkLink frame at channel = λ i. record { kind = TrunkLink; frame = less frame i; at = less at i; channel = less channel i }

abbrev pub links : HasTexts Link
links = record {
  in_range = is_link;
  InRange = IsLink;
  passes = link_passes;
  holds = link_in_range;
  text_of = link_text;
  value_of = λ text. record { kind = link_kind_of text; frame = digit_at text 2; at = digit_at text 3; channel = digit_at text 4 };
  back = λ link h. link_back link.kind link.frame link.at link.channel;
}
