-- what the words of the command line ask for
use Rattle.std.specs.Prelude.{◌≡◌, ◌≢◌, ℕ, List, [], ◌∷◌, codes, map, Contains}
use Rattle.sf_bench.specs.Names.{all, name_of}
use Rattle.sf_bench.specs.declared.benchmark.Benchmark.{Benchmark}
use Rattle.sf_bench.specs.declared.request.Request.{Request}
use Rattle.sf_bench.specs.declared.request.Request.TheVariants.{Names, Benchmarks}

-- the benchmarks that the words name, or all where there are no words
abbrev pub Chooses : List (List ℕ) → List Benchmark → Type 0
Chooses [] chosen = chosen ≡ all
Chooses (word ∷ words) chosen = map name_of chosen ≡ word ∷ words

-- the word for the names alone, or a choice
abbrev pub AsksFor : List (List ℕ) → Request → Type 0
AsksFor words Names = words ≡ codes "--list" ∷ []
AsksFor words (Benchmarks chosen) = Chooses words chosen.items

-- one of the words, and no benchmark's name
pub record IsUnknown (words : List (List ℕ)) (word : List ℕ) : Type 0 where
  pub said : Contains words word
  pub unknown : (b : Benchmark) → name_of b ≢ word
