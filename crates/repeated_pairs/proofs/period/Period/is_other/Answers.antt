-- `repeated_pairs::period::Period::is_other` meets its contract. Assumes nothing.
use Rattle.rules.specs.Entry.{record_in}
use Rattle.repeated_pairs.proofs.PairLaws.{other-by-days}
use Rattle.repeated_pairs.proofs.period.Period.is_other.Goals as goal

pub returns : goal.returns
returns c = rw c.from-day.ensures (other-by-days c.args.self.now.day (record_in c.args.e) c.args.self.now.of_day c.requires)
