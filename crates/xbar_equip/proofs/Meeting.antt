use Rattle.std.proofs.Common.{◌≡◌, ℕ, ◌⊎◌, inl, inr, sym, ◌∙◌, ap, subst}
use Rattle.xbar_equip.specs.{Among.IsIn, Link.Link, Path.{IsPath, SharesPart, line_link, junctor, trunk_link}, Word.{Word, IsWord, word_number, LineSwitch}}
use Rattle.xbar_equip.specs.{Word.{LineJunctor, TrunkSwitch, TrunkJunctor}, Crosspoint.crosspoints, declared.link.LinkKind.TheVariants.{LineLink, Junctor}}
use Rattle.xbar_equip.{specs.declared.{link.LinkKind.TheVariants.TrunkLink, path.Path.Path, crosspoint.Crosspoint.Crosspoint}, proofs.WordNumbers.distinct}

-- the link that a field of a switch's word is for; other words have no fields
abbrev pub field_link : Word → ℕ → Link
field_link (LineSwitch frame switch) field = record { kind = LineLink; frame = frame; at = switch; channel = field }
field_link (LineJunctor frame channel) field = record { kind = Junctor; frame = frame; at = field; channel = channel }
field_link (TrunkJunctor frame channel) field = record { kind = Junctor; frame = field; at = frame; channel = channel }
field_link (TrunkSwitch frame switch) field = record { kind = TrunkLink; frame = frame; at = switch; channel = field }
field_link w field = record { kind = LineLink; frame = 0; at = 0; channel = 0 }

-- the link is one of the path's
abbrev pub HasLink : Path → Link → Type 0
HasLink path link = (line_link path ≡ link) ⊎ (junctor path ≡ link) ⊎ (trunk_link path ≡ link)

-- a crosspoint of a path is at a field of a switch whose link is one of the path's
pub record StandsAtLink (path : Path) (c : Crosspoint) : Type 0 where
  pub switch : Word
  pub is_word : IsWord switch
  pub number : c.word ≡ word_number switch
  pub link : HasLink path (field_link switch c.field)

pub stands : (path : Path) (c : Crosspoint) → IsPath path → IsIn c (crosspoints path) → StandsAtLink path c
stands path c in_range (inl e) = record {
  switch = LineSwitch path.line.frame path.line.switch;
  is_word = (in_range.line.frame, in_range.line.switch);
  number = ap (λ (x : Crosspoint). x.word) e;
  link = inl (ap (λ (x : Crosspoint). field_link (LineSwitch path.line.frame path.line.switch) x.field) (sym e));
}
stands path c in_range (inr (inl e)) = record {
  switch = LineJunctor path.line.frame path.channel;
  is_word = (in_range.line.frame, in_range.channel);
  number = ap (λ (x : Crosspoint). x.word) e;
  link = inr (inl (ap (λ (x : Crosspoint). field_link (LineJunctor path.line.frame path.channel) x.field) (sym e)));
}
stands path c in_range (inr (inr (inl e))) = record {
  switch = TrunkJunctor path.place.frame path.channel;
  is_word = (in_range.place.frame, in_range.channel);
  number = ap (λ (x : Crosspoint). x.word) e;
  link = inr (inl (ap (λ (x : Crosspoint). field_link (TrunkJunctor path.place.frame path.channel) x.field) (sym e)));
}
stands path c in_range (inr (inr (inr (inl e)))) = record {
  switch = TrunkSwitch path.place.frame path.place.switch;
  is_word = (in_range.place.frame, in_range.place.switch);
  number = ap (λ (x : Crosspoint). x.word) e;
  link = inr (inr (ap (λ (x : Crosspoint). field_link (TrunkSwitch path.place.frame path.place.switch) x.field) (sym e)));
}
stands path c in_range (inr (inr (inr (inr none)))) = absurd none

kinds : (a b : Link) → a ≡ b → a.kind ≡ b.kind
kinds a b e = ap (λ (l : Link). l.kind) e

-- two paths with a link in common share a part
pub share : (p q : Path) (link : Link) → HasLink p link → HasLink q link → SharesPart p q
share p q link (inl a) (inl b) = inr (inr (inl (a ∙ sym b)))
share p q link (inr (inl a)) (inr (inl b)) = inr (inr (inr (inl (a ∙ sym b))))
share p q link (inr (inr a)) (inr (inr b)) = inr (inr (inr (inr (a ∙ sym b))))
share p q link (inl a) (inr (inl b)) = let e = kinds _ _ (a ∙ sym b) in cc
share p q link (inl a) (inr (inr b)) = let e = kinds _ _ (a ∙ sym b) in cc
share p q link (inr (inl a)) (inl b) = let e = kinds _ _ (a ∙ sym b) in cc
share p q link (inr (inl a)) (inr (inr b)) = let e = kinds _ _ (a ∙ sym b) in cc
share p q link (inr (inr a)) (inl b) = let e = kinds _ _ (a ∙ sym b) in cc
share p q link (inr (inr a)) (inr (inl b)) = let e = kinds _ _ (a ∙ sym b) in cc

-- paths with crosspoints at the same field of the same word share a part
pub meet : (p q : Path) (c d : Crosspoint) → IsPath p → IsPath q → IsIn c (crosspoints p) → IsIn d (crosspoints q) → c.word ≡ d.word → c.field ≡ d.field
    → SharesPart p q
meet p q c d in_p in_q c_in d_in word field =
    let at_p = stands p c in_p c_in in
    let at_q = stands q d in_q d_in in
    let same : at_q.switch ≡ at_p.switch = distinct at_q.switch at_p.switch at_q.is_word at_p.is_word (sym at_q.number ∙ sym word ∙ at_p.number) in
    let link_q : HasLink q (field_link at_p.switch c.field) =
    subst (λ (w : Word). HasLink q (field_link w c.field)) same (subst (λ (f : ℕ). HasLink q (field_link at_q.switch f)) (sym field) at_q.link) in
    share p q (field_link at_p.switch c.field) at_p.link link_q
