use Rattle.std.proofs.Common.{◌≡◌, ℕ, ◌+◌, ◌*◌, ◌<◌, inl, inr, ap, arith}
use Rattle.xbar_equip.specs.{Among.IsIn, Path.{IsPath, line_link, junctor, trunk_link}, Crosspoint.crosspoints}
use Rattle.xbar_equip.specs.declared.{link.LinkKind.TheVariants.{LineLink, Junctor, TrunkLink}, path.Path.Path, crosspoint.Crosspoint.Crosspoint}

-- a crosspoint of a path is one of four
pub record IsLine (path : Path) (c : Crosspoint) : Type 0 where
  pub word : c.word ≡ 20 * path.line.frame + path.line.switch
  pub field : c.field ≡ path.channel
  pub value : c.value ≡ 1 + path.line.x

pub record IsLineJunctor (path : Path) (c : Crosspoint) : Type 0 where
  pub word : c.word ≡ 20 * path.line.frame + 10 + path.channel
  pub field : c.field ≡ path.place.frame
  pub value : c.value ≡ 1 + path.line.switch

pub record IsTrunkJunctor (path : Path) (c : Crosspoint) : Type 0 where
  pub word : c.word ≡ 200 + 20 * path.place.frame + 10 + path.channel
  pub field : c.field ≡ path.line.frame
  pub value : c.value ≡ 1 + path.place.switch

pub record IsTrunk (path : Path) (c : Crosspoint) : Type 0 where
  pub word : c.word ≡ 200 + 20 * path.place.frame + path.place.switch
  pub field : c.field ≡ path.channel
  pub value : c.value ≡ 1 + path.place.appearance

-- which of the four
pub data Which (path : Path) (c : Crosspoint) : Type 0 where
  Line : IsLine path c → Which path c
  LineJunctor : IsLineJunctor path c → Which path c
  TrunkJunctor : IsTrunkJunctor path c → Which path c
  Trunk : IsTrunk path c → Which path c

pub which : (path : Path) (c : Crosspoint) → IsIn c (crosspoints path) → Which path c
which path c (inl e) =
    Line (record { word = ap (λ (x : Crosspoint). x.word) e; field = ap (λ (x : Crosspoint). x.field) e; value = ap (λ (x : Crosspoint). x.value) e })
which path c (inr (inl e)) =
    LineJunctor (record { word = ap (λ (x : Crosspoint). x.word) e; field = ap (λ (x : Crosspoint). x.field) e; value = ap (λ (x : Crosspoint). x.value) e })
which path c (inr (inr (inl e))) =
    TrunkJunctor (record { word = ap (λ (x : Crosspoint). x.word) e; field = ap (λ (x : Crosspoint). x.field) e; value = ap (λ (x : Crosspoint). x.value) e })
which path c (inr (inr (inr (inl e)))) =
    Trunk (record { word = ap (λ (x : Crosspoint). x.word) e; field = ap (λ (x : Crosspoint). x.field) e; value = ap (λ (x : Crosspoint). x.value) e })
which path c (inr (inr (inr (inr none)))) = absurd none

-- the path that has a crosspoint at this field of a line switch
pub record AtLineSwitch (path : Path) (l s v held : ℕ) : Type 0 where
  pub frame : path.line.frame ≡ l
  pub switch : path.line.switch ≡ s
  pub channel : path.channel ≡ v
  pub value : held ≡ 1 + path.line.x

pub at_line_switch : (path : Path) (c : Crosspoint) (l s : ℕ) → IsPath path → l < 10 → s < 10 → c.word ≡ 20 * l + s → Which path c
    → AtLineSwitch path l s c.field c.value
at_line_switch path c l s p f g e (Line is) =
    let ps = p.line.switch in
    record { frame = omega (arith, is.word); switch = omega (arith, is.word); channel = omega (arith, is.field); value = is.value }
at_line_switch path c l s p f g e (LineJunctor is) = let pc = p.channel in absurd (omega (arith, is.word))
at_line_switch path c l s p f g e (TrunkJunctor is) = absurd (omega (arith, is.word))
at_line_switch path c l s p f g e (Trunk is) = absurd (omega (arith, is.word))

-- the same of a line junctor switch
pub record AtLineJunctor (path : Path) (l n v held : ℕ) : Type 0 where
  pub frame : path.line.frame ≡ l
  pub channel : path.channel ≡ n
  pub trunk_frame : path.place.frame ≡ v
  pub value : held ≡ 1 + path.line.switch

pub at_line_junctor : (path : Path) (c : Crosspoint) (l n : ℕ) → IsPath path → l < 10 → n < 10 → c.word ≡ 20 * l + 10 + n → Which path c
    → AtLineJunctor path l n c.field c.value
at_line_junctor path c l n p f g e (Line is) = let ps = p.line.switch in absurd (omega (arith, is.word))
at_line_junctor path c l n p f g e (LineJunctor is) =
    let pc = p.channel in
    record { frame = omega (arith, is.word); channel = omega (arith, is.word); trunk_frame = omega (arith, is.field); value = is.value }
at_line_junctor path c l n p f g e (TrunkJunctor is) = absurd (omega (arith, is.word))
at_line_junctor path c l n p f g e (Trunk is) = absurd (omega (arith, is.word))

-- the same of a trunk junctor switch
pub record AtTrunkJunctor (path : Path) (t n v held : ℕ) : Type 0 where
  pub frame : path.place.frame ≡ t
  pub channel : path.channel ≡ n
  pub line_frame : path.line.frame ≡ v
  pub value : held ≡ 1 + path.place.switch

pub at_trunk_junctor : (path : Path) (c : Crosspoint) (t n : ℕ) → IsPath path → t < 10 → n < 10 → c.word ≡ 200 + 20 * t + 10 + n → Which path c
    → AtTrunkJunctor path t n c.field c.value
at_trunk_junctor path c t n p f g e (Line is) = let pf = p.line.frame in let ps = p.line.switch in absurd (omega (arith, is.word))
at_trunk_junctor path c t n p f g e (LineJunctor is) = let pf = p.line.frame in let pc = p.channel in absurd (omega (arith, is.word))
at_trunk_junctor path c t n p f g e (TrunkJunctor is) =
    let pc = p.channel in
    record { frame = omega (arith, is.word); channel = omega (arith, is.word); line_frame = omega (arith, is.field); value = is.value }
at_trunk_junctor path c t n p f g e (Trunk is) = let ps = p.place.switch in absurd (omega (arith, is.word))

-- the same of a trunk switch
pub record AtTrunkSwitch (path : Path) (t u v held : ℕ) : Type 0 where
  pub frame : path.place.frame ≡ t
  pub switch : path.place.switch ≡ u
  pub channel : path.channel ≡ v
  pub value : held ≡ 1 + path.place.appearance

pub at_trunk_switch : (path : Path) (c : Crosspoint) (t u : ℕ) → IsPath path → t < 10 → u < 10 → c.word ≡ 200 + 20 * t + u → Which path c
    → AtTrunkSwitch path t u c.field c.value
at_trunk_switch path c t u p f g e (Line is) = let pf = p.line.frame in let ps = p.line.switch in absurd (omega (arith, is.word))
at_trunk_switch path c t u p f g e (LineJunctor is) = let pf = p.line.frame in let pc = p.channel in absurd (omega (arith, is.word))
at_trunk_switch path c t u p f g e (TrunkJunctor is) = let pc = p.channel in absurd (omega (arith, is.word))
at_trunk_switch path c t u p f g e (Trunk is) =
    let ps = p.place.switch in
    record { frame = omega (arith, is.word); switch = omega (arith, is.word); channel = omega (arith, is.field); value = is.value }

-- the link of a path with a crosspoint at this field
pub line_link_at : (path : Path) (l s v held : ℕ) → AtLineSwitch path l s v held → line_link path ≡ record { kind = LineLink; frame = l; at = s; channel = v }
line_link_at path l s v held at = λ i. record { kind = LineLink; frame = at.frame i; at = at.switch i; channel = at.channel i }

pub junctor_at : (path : Path) (l n v held : ℕ) → AtLineJunctor path l n v held → junctor path ≡ record { kind = Junctor; frame = l; at = v; channel = n }
junctor_at path l n v held at = λ i. record { kind = Junctor; frame = at.frame i; at = at.trunk_frame i; channel = at.channel i }

pub junctor_back_at : (path : Path) (t n v held : ℕ) → AtTrunkJunctor path t n v held → junctor path ≡ record { kind = Junctor; frame = v; at = t; channel = n }
junctor_back_at path t n v held at = λ i. record { kind = Junctor; frame = at.line_frame i; at = at.frame i; channel = at.channel i }

pub trunk_link_at : (path : Path) (t u v held : ℕ) → AtTrunkSwitch path t u v held
    → trunk_link path ≡ record { kind = TrunkLink; frame = t; at = u; channel = v }
trunk_link_at path t u v held at = λ i. record { kind = TrunkLink; frame = at.frame i; at = at.switch i; channel = at.channel i }
