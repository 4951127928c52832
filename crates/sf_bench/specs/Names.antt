-- the names of the benchmarks
use Rattle.std.specs.Prelude.{ℕ, List, [], ◌∷◌, ◌++◌, codes}
use Rattle.sf_bench.specs.declared.benchmark.Benchmark.{Benchmark}
use Rattle.sf_bench.specs.declared.benchmark.Benchmark.TheVariants.{Lookup, Lead, Join, Forget, Current, Distinct, Hot, Place, Key, Fill}

abbrev pub name_of : Benchmark → List ℕ
name_of Lookup = codes "lookup"
name_of Lead = codes "lead"
name_of Join = codes "join"
name_of Forget = codes "forget"
name_of Current = codes "current"
name_of Distinct = codes "distinct"
name_of Hot = codes "hot"
name_of Place = codes "place"
name_of Key = codes "key"
name_of Fill = codes "fill"

-- their names, one a line
abbrev pub names_text : List Benchmark → List ℕ
names_text [] = []
names_text (b ∷ bs) = name_of b ++ (codes "\n" ++ names_text bs)

-- all of them, in the order in which they run
abbrev pub all : List Benchmark
all = Lookup ∷ Lead ∷ Join ∷ Forget ∷ Current ∷ Distinct ∷ Hot ∷ Place ∷ Key ∷ Fill ∷ []
