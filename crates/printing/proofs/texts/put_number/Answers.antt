use Rattle.printing.proofs.PutLaws.{put-decimal}
use Rattle.printing.proofs.texts.put_number.Goals as goal

pub returns : goal.returns
returns c = put-decimal c.args.number c.zeros-leading.result c.ten_digits-digits.result c.ten_digits-digits.ensures c.zeros-leading.ensures.digits_value c.put_bytes.ensures
