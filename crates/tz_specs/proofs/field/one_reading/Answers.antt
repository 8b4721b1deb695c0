use Rattle.std.proofs.Common.{[]}
use Rattle.tz_specs.specs.Field.{Between}
use Rattle.tz_specs.proofs.Standing.{stands_read, read_stands}
use Rattle.tz_specs.proofs.field.one_reading.Goals as goal

pub returns : goal.returns
returns c = λ line fields. (λ stands. stands_read stands, λ read. read_stands line Between [] fields read)
