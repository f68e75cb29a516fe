use Rattle.gridded.proofs.Keys.{are_bytes}
use Rattle.gridded.proofs.key.word.Goals as goal

pub returns : goal.returns
returns c = record { value = c.from_be_bytes.ensures; are_bytes = are_bytes c.args.bytes.now c.fits-bytes }
