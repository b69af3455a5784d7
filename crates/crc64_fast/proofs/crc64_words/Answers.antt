-- `crc64_words`: each word takes the checksum past its eight bytes. Assumes nothing.
use Rattle.std.proofs.Common.{rules, ℕ, List, [], ◌∷◌, map, sym}
use Rattle.std.proofs.lemmas.List.{get_or-map}
use Rattle.device.specs.Word.{low}
use Rattle.crc64.specs.Crc64.{bits_of}
use Rattle.crc64.proofs.Register.{run}
use Rattle.crc64.proofs.Division.{register_of}
use Rattle.crc64_fast.proofs.Words.{words_more}
use Rattle.crc64_fast.proofs.crc64_words.Goals as goal

pub loop-word-init : goal.loop-word-init
unfolding bits_of run
loop-word-init c = sym (register_of [])

pub loop-word-preserved : goal.loop-word-preserved
loop-word-preserved c =
    let i : ℕ = c.loop-word.word-index in
    let ws : List ℕ = c.args.a ∷ c.args.b ∷ c.args.c ∷ [] in
    words_more _ _ _ i (map (low 8) ws) [] c.loop-word-test.true (search rules) (sym (get_or-map (low 8) ws i 0 [] c.loop-word-test.true))
    c.pass-register.ensures c.loop-word.invariant
