-- the connectors by their places among all
use Rattle.std.proofs.Common.{◌≡◌, ℕ, zero, suc, ◌+◌, ◌-◌, ◌<◌, ◌≤◌, List, [], ◌∷◌, ◌++◌, length, map, ◌∙◌, ap, arith, Some, slice_get}
use Rattle.{std.specs.List.range_with_len, turns.proofs.Orders.get_before, xbar_equip.specs.declared.conn.Conn.Conn, xbar_look.specs.Connectors.all_conns}
use Rattle.xbar_equip.specs.declared.conn.Conn.TheVariants as conn

behind : {A : Type 0} (items others : List A) (n i : ℕ) → n ≡ length items + i → slice_get (items ++ others) n ≡ slice_get others i
behind [] others n i is = ap (slice_get others) (omega arith)
behind (first ∷ items) others zero i is = absurd (omega arith)
behind (first ∷ items) others (suc n) i is = behind items others n i (omega arith)

numbered : (kind : ℕ → Conn) (a count i n : ℕ) → i < count → n ≡ a + i → slice_get (map kind (range_with_len a count)) i ≡ Some (kind n)
numbered kind a zero i n below is = absurd (omega arith)
numbered kind a (suc count) zero n below is = ap (λ (k : ℕ). Some (kind k)) (omega arith)
numbered kind a (suc count) (suc i) n below is = numbered kind (a + 1) count i n (omega arith) (omega arith)

abbrev frames : (ℕ → Conn) → List Conn
frames kind = map kind (range_with_len 0 10)

abbrev groups : List Conn
groups = map conn.Group (range_with_len 0 16)

pub line_frame : (i : ℕ) → i < 10 → slice_get all_conns i ≡ Some (conn.Llf i)
line_frame i below = get_before (frames conn.Llf) (frames conn.Tlf ++ groups) i (conn.Llf i) (numbered conn.Llf 0 10 i i below (omega arith))

pub trunk_frame : (i : ℕ) → 10 ≤ i → i < 20 → slice_get all_conns i ≡ Some (conn.Tlf (i - 10))
trunk_frame i from below =
    behind (frames conn.Llf) (frames conn.Tlf ++ groups) i (i - 10) (omega arith)
    ∙ get_before (frames conn.Tlf) groups (i - 10) (conn.Tlf (i - 10)) (numbered conn.Tlf 0 10 (i - 10) (i - 10) (omega arith) (omega arith))

pub group : (i : ℕ) → 20 ≤ i → i < 36 → slice_get all_conns i ≡ Some (conn.Group (i - 20))
group i from below =
    behind (frames conn.Llf) (frames conn.Tlf ++ groups) i (i - 10) (omega arith)
    ∙ behind (frames conn.Tlf) groups (i - 10) (i - 20) (omega arith)
    ∙ numbered conn.Group 0 16 (i - 20) (i - 20) (omega arith) (omega arith)
