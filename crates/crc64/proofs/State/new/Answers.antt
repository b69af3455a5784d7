-- `State::new`: the checksum of no bytes is that of the ones alone, which is 0. Assumes nothing.
use mathlib.Core.Path.{sym}
use Rattle.std.specs.Prelude.{[]}
use Rattle.crc64.specs.Crc64.{bits_of}
use Rattle.crc64.proofs.Register.{run}
use Rattle.crc64.proofs.Division.{register}
use Rattle.crc64.proofs.State.new.Goals as goal

pub returns : goal.returns
unfolding bits_of run
returns c = sym (register [])
