use Rattle.std.specs.Prelude.{◌≡◌, map, take, string_bytes}
use Rattle.sf_bench.specs.Names.{name_of}
use Rattle.sf_bench.proofs.request.parse.Given as goal

abbrev pub invariant-loop-word : goal.invariant-loop-word
invariant-loop-word l = map name_of l.chosen.items ≡ take l.word-index (map string_bytes l.words)
