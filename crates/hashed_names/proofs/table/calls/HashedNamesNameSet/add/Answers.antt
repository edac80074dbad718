use Rattle.std.proofs.Common.{◌<◌, arith}
use Rattle.hashed_names.specs.Apart.{sound_counted}
use Rattle.hashed_names.proofs.Chains.{long}
use Rattle.hashed_names.proofs.Keeping.{absent, added, added_sound, refused}
use Rattle.hashed_names.proofs.table.calls.HashedNamesNameSet.add.Goals as goal

pub invariant_of-self : goal.invariant_of-self
invariant_of-self c =
    let table = c.args.self.now in
    let few : table.count < 1280 = omega arith in
    record {
      sound = added_sound (long table.places) table.sound c.in-Free.ensures few c.put.ensures;
      few = omega (arith, few);
    }

pub returns-in-Free : goal.returns-in-Free
returns-in-Free c =
    let table = c.args.self.now in
    let few : table.count < 1280 = omega arith in
    added (long table.places) table.sound c.in-Free.ensures few c.put.ensures

pub returns-in_default : goal.returns-in_default
returns-in_default c = refused (absent c.args.self.now.sound c.in-Free.ensures) (omega arith)

pub returns-in_default-2 : goal.returns-in_default-2
returns-in_default-2 c =
    let long = sound_counted c.args.self.now.sound in
    absurd (omega (arith, long, c.in_default.ensures.full, c.args.self.now.few))
