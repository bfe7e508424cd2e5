use Rattle.std.proofs.Common.{◌≡◌, IfOk, string_bytes, List, ℕ, subst}
use Rattle.xbar_traffic.proofs.FaultLines.{marker_line, plain_line}
use Rattle.xbar_traffic.proofs.fault.TrafficFault.text.Goals as goal

pub returns-in-Marker : goal.returns-in-Marker
returns-in-Marker c =
    subst (λ (line : List ℕ). IfOk c.format.result (λ text. string_bytes text ≡ line))
    (marker_line c.args.self c.in-Marker.why c.in-Marker.is) c.format.ensures.ok

pub returns-in_default : goal.returns-in_default
returns-in_default c =
    subst (λ (line : List ℕ). IfOk c.format-in_default.result (λ text. string_bytes text ≡ line))
    (plain_line c.args.self.row c.args.self.fault c.in_default.not-Marker) c.format-in_default.ensures.ok
