use Rattle.xbar_traffic.proofs.StoodNumbers.{none_stands}
use Rattle.xbar_traffic.proofs.numbers.Numbers.new.Goals as goal

pub returns : goal.returns
returns c number = none_stands _ 10000 (c.in_ok-vec.ensures.items_if_clones_equal (λ y e. e)) number
