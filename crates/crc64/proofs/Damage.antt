-- What damage the checksum refuses, put together from the six proofs. Assumes nothing.
use Rattle.crc64.specs.Damage.{Refuses}
use Rattle.crc64.proofs.Apart.{apart}
use Rattle.crc64.proofs.Burst.{burst, stored_burst, one_piece}
use Rattle.crc64.proofs.Few.{odd, few}

pub damage : Refuses
damage =
    record { burst = burst; stored_burst = stored_burst; one_piece = one_piece; odd = odd; few = few; apart = apart }
