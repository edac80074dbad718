use Rattle.std.proofs.Common.{rules}
use Rattle.frames.proofs.ReadingBack.{put_back}
use Rattle.frames.proofs.writer.put.Goals as goal

pub returns-clause-read_back : goal.returns-clause-read_back
returns-clause-read_back c = put_back c.args.kind c.args.body.now c.requires c.args.buffer.now _ (search rules)
