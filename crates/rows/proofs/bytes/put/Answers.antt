use Rattle.std.proofs.Common.{length, refl, arith, rules}
use Rattle.std.proofs.lemmas.Slice.{put_mid-paste}
use Rattle.rows.proofs.bytes.put.Goals as goal

pub returns : goal.returns
returns c =
    record {
      small = search rules;
      after = put_mid-paste c.args.at _ c.args.out.now _ c.args.part.now (length c.args.part.now)
          c.copy_from_slice.ensures.after (omega arith) refl;
    }
