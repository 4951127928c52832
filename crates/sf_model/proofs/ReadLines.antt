-- commands read from lines, one a turn
use Rattle.std.proofs.Common.{◌≡◌, ℕ, ◌+◌, ◌<◌, List, [], ◌∷◌, ◌++◌, length, map, take, drop, get_or, Option, None, Some, sym, ◌∙◌, ap, subst, arith}
use Rattle.std.proofs.lemmas.List.{length-map, length-take-le, map-append, take_more, take-append-drop, get_or_default}
use Rattle.sf_text.specs.Words.{words}
use Rattle.sf_model.specs.Reading.{ScriptCommand, AreRead, Spells, IsReading, IsFirstBad}
use Rattle.sf_model.proofs.Runs.{drop_at}

-- one line more, and its command
pub read_more : (ls : List (List ℕ)) (cs : List ScriptCommand) (l : List ℕ) (c : ScriptCommand) → AreRead ls cs → Spells (words l) c → AreRead (ls ++ l ∷ []) (cs ++ c ∷ [])
read_more [] [] l c read is = (is, tt)
read_more [] (d ∷ cs) l c read is = absurd read
read_more (k ∷ ls) [] l c read is = absurd read
read_more (k ∷ ls) (d ∷ cs) l c read is = (read.0, read_more ls cs l c read.1 is)

module _ {X : Type 0} (v : X → List ℕ) where
  -- the next line says a command
  pub read_turn : (xs : List X) (i : ℕ) (d : X) (cs : List ScriptCommand) (c : ScriptCommand) (o : Option ScriptCommand) → IsReading (words (v (get_or xs i d))) o → o ≡ Some c
      → i < length xs → AreRead (map v (take i xs)) cs → AreRead (map v (take (i + 1) xs)) (cs ++ c ∷ [])
  unfolding IsReading
  read_turn xs i d cs c o said some within read =
      let is : Spells (words (v (get_or xs i d))) c = subst (λ (z : Option ScriptCommand). IsReading (words (v (get_or xs i d))) z) some said in
      let grown : map v (take (i + 1) xs) ≡ map v (take i xs) ++ v (get_or xs i d) ∷ [] = ap (map v) (take_more xs i d within) ∙ map-append v (take i xs) (get_or xs i d ∷ []) in
      subst (λ (ls : List (List ℕ)). AreRead ls (cs ++ c ∷ [])) (sym grown) (read_more (map v (take i xs)) cs (v (get_or xs i d)) c read is)

  -- the next line says no command, and is the first
  pub bad_turn : (xs : List X) (ls : List (List ℕ)) (i : ℕ) (d : X) (cs : List ScriptCommand) (o : Option ScriptCommand) → IsReading (words (v (get_or xs i d))) o → o ≡ None
      → map v xs ≡ ls → i < length xs → AreRead (map v (take i xs)) cs → IsFirstBad ls (i + 1)
  unfolding IsReading
  bad_turn xs ls i d cs o said none all within read = record {
    before = map v (take i xs);
    line = v (get_or xs i d);
    after = map v (drop (i + 1) xs);
    commands = cs;
    stands = sym all ∙ ap (map v) (sym (take-append-drop i xs)) ∙ map-append v (take i xs) (drop i xs) ∙ ap (λ z. map v (take i xs) ++ map v z) (drop_at xs i (get_or xs i d) within (get_or_default xs i d (get_or xs i d) within));
    counted = let counted = length-map (take i xs) v in let taken = length-take-le i xs (omega arith) in omega arith;
    read = read;
    bad = subst (λ (z : Option ScriptCommand). IsReading (words (v (get_or xs i d))) z) none said;
  }
