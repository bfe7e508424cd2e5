-- which crosspoints are at a link, and of which paths they are
use Rattle.std.proofs.Common.{◌≡◌, ℕ, inl, inr, refl, sym, ◌∙◌, ap, subst, arith}
use Rattle.{turns.specs.Among.IsIn, xbar_equip.specs.{Crosspoint.crosspoints, Link.Link, Path.{IsPath, line_link, junctor, trunk_link}}}
use Rattle.xbar_equip.specs.declared.{crosspoint.Crosspoint.Crosspoint, link.LinkKind.TheVariants.{LineLink, Junctor, TrunkLink}, path.Path.Path}
use Rattle.xbar_equip.proofs.Meeting.{HasLink}
use Rattle.xbar_match.proofs.PathCrosspoints.{AtLineJunctor, AtTrunkJunctor, Which, at_line_junctor, at_line_switch, at_trunk_junctor, at_trunk_switch, which}
use Rattle.{xbar_match.proofs.PathEffects.{line_of, line_junctor_of, trunk_junctor_of, trunk_of}, xbar_moves.specs.Links.{IsAtLink, Joint, joints}}

-- a link of a path has its kind
line_linked : (p q : Path) → HasLink q (line_link p) → line_link q ≡ line_link p
line_linked p q (inl same) = same
line_linked p q (inr (inl same)) = let kind = ap (λ (l : Link). l.kind) same in cc
line_linked p q (inr (inr same)) = let kind = ap (λ (l : Link). l.kind) same in cc

junctor_linked : (p q : Path) → HasLink q (junctor p) → junctor q ≡ junctor p
junctor_linked p q (inl same) = let kind = ap (λ (l : Link). l.kind) same in cc
junctor_linked p q (inr (inl same)) = same
junctor_linked p q (inr (inr same)) = let kind = ap (λ (l : Link). l.kind) same in cc

trunk_linked : (p q : Path) → HasLink q (trunk_link p) → trunk_link q ≡ trunk_link p
trunk_linked p q (inl same) = let kind = ap (λ (l : Link). l.kind) same in cc
trunk_linked p q (inr (inl same)) = let kind = ap (λ (l : Link). l.kind) same in cc
trunk_linked p q (inr (inr same)) = same

-- the crosspoints that a joint of a path can be
module _ (p q : Path) (in_p : IsPath p) (in_q : IsPath q) (c : Crosspoint) (is : Which q c) where
  at_line : c ≡ line_of p → line_link q ≡ line_link p
  at_line same =
      let at = at_line_switch q c p.line.frame p.line.switch in_q in_p.line.frame in_p.line.switch (ap (λ (x : Crosspoint). x.word) same) is in
      λ i. record { kind = LineLink; frame = at.frame i; at = at.switch i; channel = (at.channel ∙ ap (λ (x : Crosspoint). x.field) same) i }

  module _ (same : c ≡ line_junctor_of p) where
    on_line_side : AtLineJunctor q p.line.frame p.channel c.field c.value
    on_line_side = at_line_junctor q c p.line.frame p.channel in_q in_p.line.frame in_p.channel (ap (λ (x : Crosspoint). x.word) same) is

    at_line_side : line_link q ≡ line_link p
    at_line_side =
        let switch : q.line.switch ≡ p.line.switch = omega (arith, on_line_side.value, ap (λ (x : Crosspoint). x.value) same) in
        λ i. record { kind = LineLink; frame = on_line_side.frame i; at = switch i; channel = on_line_side.channel i }

    before_junctor : junctor q ≡ junctor p
    before_junctor =
        λ i.
        record {
          kind = Junctor;
          frame = on_line_side.frame i;
          at = (on_line_side.trunk_frame ∙ ap (λ (x : Crosspoint). x.field) same) i;
          channel = on_line_side.channel i;
        }

  module _ (same : c ≡ trunk_junctor_of p) where
    on_trunk_side : AtTrunkJunctor q p.place.frame p.channel c.field c.value
    on_trunk_side = at_trunk_junctor q c p.place.frame p.channel in_q in_p.place.frame in_p.channel (ap (λ (x : Crosspoint). x.word) same) is

    after_junctor : junctor q ≡ junctor p
    after_junctor =
        λ i.
        record {
          kind = Junctor;
          frame = (on_trunk_side.line_frame ∙ ap (λ (x : Crosspoint). x.field) same) i;
          at = on_trunk_side.frame i;
          channel = on_trunk_side.channel i;
        }

    at_trunk_side : trunk_link q ≡ trunk_link p
    at_trunk_side =
        let switch : q.place.switch ≡ p.place.switch = omega (arith, on_trunk_side.value, ap (λ (x : Crosspoint). x.value) same) in
        λ i. record { kind = TrunkLink; frame = on_trunk_side.frame i; at = switch i; channel = on_trunk_side.channel i }

  at_place : c ≡ trunk_of p → trunk_link q ≡ trunk_link p
  at_place same =
      let at = at_trunk_switch q c p.place.frame p.place.switch in_q in_p.place.frame in_p.place.switch (ap (λ (x : Crosspoint). x.word) same) is in
      λ i. record { kind = TrunkLink; frame = at.frame i; at = at.switch i; channel = (at.channel ∙ ap (λ (x : Crosspoint). x.field) same) i }

  crosspoint_is : (joint : Joint) (link : Link) → record { crosspoint = c; link = link } ≡ joint → c ≡ joint.crosspoint
  crosspoint_is joint link e = ap (λ (j : Joint). j.crosspoint) e

  link_is : (joint : Joint) (link : Link) → record { crosspoint = c; link = link } ≡ joint → joint.link ≡ link
  link_is joint link e = ap (λ (j : Joint). j.link) (sym e)

  joins : (link : Link) → IsIn (record { crosspoint = c; link = link }) (joints p) → HasLink q link
  joins link (inl e) = inl (at_line (crosspoint_is _ link e) ∙ link_is _ link e)
  joins link (inr (inl e)) = inl (at_line_side (crosspoint_is _ link e) ∙ link_is _ link e)
  joins link (inr (inr (inl e))) = inr (inl (before_junctor (crosspoint_is _ link e) ∙ link_is _ link e))
  joins link (inr (inr (inr (inl e)))) = inr (inl (after_junctor (crosspoint_is _ link e) ∙ link_is _ link e))
  joins link (inr (inr (inr (inr (inl e))))) = inr (inr (at_trunk_side (crosspoint_is _ link e) ∙ link_is _ link e))
  joins link (inr (inr (inr (inr (inr (inl e)))))) = inr (inr (at_place (crosspoint_is _ link e) ∙ link_is _ link e))
  joins link (inr (inr (inr (inr (inr (inr none)))))) = absurd none

-- a path that has a crosspoint at a link has the link
pub has_link : (link : Link) (c : Crosspoint) (q : Path) → IsAtLink link c → IsPath q → IsIn c (crosspoints q) → HasLink q link
has_link link c q at range within = joins at.path q at.range range c (which q c within) link at.joins

-- a path has a crosspoint on this word
pub record HasOnWord (q : Path) (word : ℕ) : Type 0 where
  pub crosspoint : Crosspoint
  pub has : IsIn crosspoint (crosspoints q)
  pub on : crosspoint.word ≡ word

module _ (p q : Path) where
  line_words : line_link q ≡ line_link p → HasOnWord q (line_of p).word
  line_words same = let frame = ap (λ (l : Link). l.frame) same in let at = ap (λ (l : Link). l.at) same in
      record { crosspoint = line_of q; has = inl refl; on = omega (arith, frame, at) }

  line_side_words : line_link q ≡ line_link p → HasOnWord q (line_junctor_of p).word
  line_side_words same =
      let frame = ap (λ (l : Link). l.frame) same in let channel = ap (λ (l : Link). l.channel) same in
      record { crosspoint = line_junctor_of q; has = inr (inl refl); on = omega (arith, frame, channel) }

  before_junctor_words : junctor q ≡ junctor p → HasOnWord q (line_junctor_of p).word
  before_junctor_words same =
      let frame = ap (λ (l : Link). l.frame) same in let channel = ap (λ (l : Link). l.channel) same in
      record { crosspoint = line_junctor_of q; has = inr (inl refl); on = omega (arith, frame, channel) }

  after_junctor_words : junctor q ≡ junctor p → HasOnWord q (trunk_junctor_of p).word
  after_junctor_words same =
      let at = ap (λ (l : Link). l.at) same in let channel = ap (λ (l : Link). l.channel) same in
      record { crosspoint = trunk_junctor_of q; has = inr (inr (inl refl)); on = omega (arith, at, channel) }

  trunk_side_words : trunk_link q ≡ trunk_link p → HasOnWord q (trunk_junctor_of p).word
  trunk_side_words same =
      let frame = ap (λ (l : Link). l.frame) same in let channel = ap (λ (l : Link). l.channel) same in
      record { crosspoint = trunk_junctor_of q; has = inr (inr (inl refl)); on = omega (arith, frame, channel) }

  place_words : trunk_link q ≡ trunk_link p → HasOnWord q (trunk_of p).word
  place_words same = let frame = ap (λ (l : Link). l.frame) same in let at = ap (λ (l : Link). l.at) same in
      record { crosspoint = trunk_of q; has = inr (inr (inr (inl refl))); on = omega (arith, frame, at) }

module _ (p q : Path) (link : Link) (c : Crosspoint) (has : HasLink q link) where
  -- what it has of the link of a joint
  has_same : (joint : Joint) → record { crosspoint = c; link = link } ≡ joint → HasLink q joint.link
  has_same joint e = subst (HasLink q) (ap (λ (j : Joint). j.link) e) has

  on_same : (joint : Joint) → record { crosspoint = c; link = link } ≡ joint → HasOnWord q joint.crosspoint.word → HasOnWord q c.word
  on_same joint e = subst (HasOnWord q) (ap (λ (j : Joint). j.crosspoint.word) (sym e))

  words_of : IsIn (record { crosspoint = c; link = link }) (joints p) → HasOnWord q c.word
  words_of (inl e) = on_same _ e (line_words p q (line_linked p q (has_same _ e)))
  words_of (inr (inl e)) = on_same _ e (line_side_words p q (line_linked p q (has_same _ e)))
  words_of (inr (inr (inl e))) = on_same _ e (before_junctor_words p q (junctor_linked p q (has_same _ e)))
  words_of (inr (inr (inr (inl e)))) = on_same _ e (after_junctor_words p q (junctor_linked p q (has_same _ e)))
  words_of (inr (inr (inr (inr (inl e))))) = on_same _ e (trunk_side_words p q (trunk_linked p q (has_same _ e)))
  words_of (inr (inr (inr (inr (inr (inl e)))))) = on_same _ e (place_words p q (trunk_linked p q (has_same _ e)))
  words_of (inr (inr (inr (inr (inr (inr none)))))) = absurd none

-- and a path that has a link has a crosspoint on each word that has one at the link
pub word_at_link : (link : Link) (c : Crosspoint) (q : Path) → IsAtLink link c → HasLink q link → HasOnWord q c.word
word_at_link link c q at has = words_of at.path q link c has at.joins
