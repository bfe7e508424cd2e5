use Rattle.std.specs.Prelude.{◌≡◌, ℕ, List}
use Rattle.xbar_traffic.specs.Fault.{fault_line}
use Rattle.xbar_traffic.specs.declared.fault.TrafficFault.{TrafficFault}
use Rattle.crossbar5.specs.declared.written.Status.{Status}
use Rattle.crossbar5.specs.declared.written.Status.TheVariants.{TrafficRefused}

-- the text and the status report that traffic is refused for this fault
pub record IsTrafficRefusal (fault : TrafficFault) (text : List ℕ) (status : Status) : Type 0 where
  pub text_is : text ≡ fault_line fault
  pub status_is : status ≡ TrafficRefused
