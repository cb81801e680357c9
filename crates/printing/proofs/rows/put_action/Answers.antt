use Rattle.printing.proofs.ReplyLaws.{action-put}
use Rattle.printing.proofs.rows.put_action.Goals as goal

pub returns : goal.returns
returns c = action-put c.args.block.now c.min-length.result c.min-length.ensures c.requires.1 c.put_number-next.ensures c.put_field-next.ensures c.put_fields-next.ensures c.put_byte.ensures
