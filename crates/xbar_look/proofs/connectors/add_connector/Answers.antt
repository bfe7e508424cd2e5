use Rattle.std.proofs.Common.{append_assoc}
use Rattle.xbar_look.specs.Connectors.{connector_object}
use Rattle.xbar_look.proofs.connectors.add_connector.Goals as goal

pub returns : goal.returns
unfolding connector_object
returns c =
    rw (
      c.in_ok-push_str-2.ensures.bytes,
      c.in_ok-add_requesters.ensures,
      c.in_ok-write.ensures.bytes,
      c.in_ok-add_json.ensures,
      c.in_ok-push_str.ensures.bytes,
      c.number-number.ensures.value,
      c.conn_word.ensures,
      c.holder_of.ensures,
    )
    (simp append_assoc)
