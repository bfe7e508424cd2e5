use Rattle.std.specs.Prelude.{◌<◌, ◌==◌, Bool, false}
use Rattle.xbar_equip.specs.declared.conn.Conn.{Conn}
use Rattle.xbar_equip.specs.declared.conn.Conn.TheVariants.{Llf, Tlf, Group}

-- the connector exists: there is one for each line link frame, each trunk link frame and each of
-- sixteen trunk groups
abbrev pub IsConn : Conn → Type 0
IsConn (Llf frame) = frame < 10
IsConn (Tlf frame) = frame < 10
IsConn (Group group) = group < 16

-- whether two connectors are the same
abbrev pub conn_eq : Conn → Conn → Bool
conn_eq (Llf a) (Llf b) = a == b
conn_eq (Tlf a) (Tlf b) = a == b
conn_eq (Group a) (Group b) = a == b
conn_eq _ _ = false
