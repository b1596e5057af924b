use Rattle.std.proofs.Common.{ap, ◌∙◌}
use Rattle.xpnet_frame.specs.Message.{decoded}
use Rattle.xpnet_frame.proofs.Messages.{decoded_message, decoded_bytes, decoded_from}
use Rattle.xpnet_frame.proofs.message.decode.Goals as goal

pub returns-clause-order : goal.returns-clause-order
returns-clause-order c =
    decoded_from c.args.body.now c.of_bytes.result c.message_of.result
    c.if-body-lt-MESSAGE_HEADER_BYTES.false c.of_bytes.ensures c.message_of.ensures

pub returns-clause-message : goal.returns-clause-message
returns-clause-message c =
    let order = decoded_from c.args.body.now c.of_bytes.result c.message_of.result
    c.if-body-lt-MESSAGE_HEADER_BYTES.false c.of_bytes.ensures c.message_of.ensures in
    decoded_message c.args.body.now c.message_of.result (λ k. (c.type_inv.body k).fits) order

pub returns-clause-back : goal.returns-clause-back
returns-clause-back c m h e =
    let order = decoded_from c.args.body.now c.of_bytes.result c.message_of.result
    c.if-body-lt-MESSAGE_HEADER_BYTES.false c.of_bytes.ensures c.message_of.ensures in
    order ∙ ap decoded e ∙ decoded_bytes m h
