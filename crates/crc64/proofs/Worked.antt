-- The worked examples hold: each side is computed. Assumes nothing.
use mathlib.Core.Path.{◌≡◌, refl}
use mathlib.Core.Bool.{false}
use lib.ListN.{take, drop}
use Rattle.device.specs.Word.{low}
use Rattle.crc64.specs.Crc64.{bits, bits_of, number, onto, divide, remainder, generator, crc_of}
use Rattle.crc64.specs.Damage.{distance}
use Rattle.crc64.specs.Examples.{whole, damaged, Examples}
use Rattle.crc64.proofs.Lists.{take_agree, drop_agree}

same_before : take 15 (bits_of whole) ≡ take 15 (bits_of damaged)
unfolding bits bits_of low
same_before = refl

same_behind : drop 75 (bits_of whole) ≡ drop 75 (bits_of damaged)
unfolding bits bits_of low
same_behind = refl

pub examples : Examples
unfolding bits bits_of number onto divide remainder generator crc_of distance low
examples =
    record {
      check = refl;
      zero = refl;
      one = refl;
      empty = refl;
      hundred = refl;
      smallest = refl;
      right = refl;
      right_damaged = refl;
      damage = refl;
      close =
          record {
            long = refl;
            start = 15;
            before = take_agree false (bits_of whole) (bits_of damaged) 15 same_before;
            behind = drop_agree false (bits_of whole) (bits_of damaged) 75 same_behind;
          };
    }
