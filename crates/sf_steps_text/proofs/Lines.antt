-- the lines of a schedule, one after the other
use Rattle.std.proofs.Common.{◌≡◌, ℕ, ◌+◌, ◌<◌, Option, Some, None, List, [], ◌∷◌, ◌++◌, length, map, take, refl, sym, ◌∙◌, ap, subst, slice_index_or}
use Rattle.std.proofs.lemmas.List.{take_more, get_or-map, length-map}
use Rattle.sf_text.specs.Words.{words}
use Rattle.sf_steps_text.specs.declared.player.Player.{Player}
use Rattle.sf_steps_laws.specs.declared.turn.Turn.{Turn}
use Rattle.sf_steps_text.specs.declared.schedule_line.ScheduleLine.{ScheduleLine}
use Rattle.sf_steps_text.specs.Played.{IsScheduleText, IsBadLine, IsBadAt}
use Rattle.sf_steps_text.specs.PlayerState.{IsAfter}
use Rattle.sf_steps_text.specs.ScheduleText.{Spells, IsLine, turns_of}
use Rattle.sf_steps_text.specs.TraceText.{Outcome}
use Rattle.sf_steps_text.proofs.Playing.{text_push}

module _ {L : Type 0} where
  within_map : (f : L → List ℕ) (ls : List L) (i : ℕ) → i < length ls → i < length (map f ls)
  within_map f ls i lt = subst (λ (n : ℕ). i < n) (sym (length-map ls f)) lt

  pub line_obeyed : (f : L → List ℕ) (ls : List L) (i : ℕ) (d : L) (q : Player) (ts : List (Turn Outcome)) (said : ScheduleLine) → i < length ls → IsScheduleText (take i (map f ls)) ts → Spells (words (f (slice_index_or ls i d))) said
      → IsAfter q (ts ++ turns_of said) → (us : List (Turn Outcome)) × IsScheduleText (take (i + 1) (map f ls)) us × IsAfter q us
  line_obeyed f ls i d q ts said lt text one after =
      let more : take (i + 1) (map f ls) ≡ take i (map f ls) ++ f (slice_index_or ls i d) ∷ [] =
      take_more (map f ls) i [] (within_map f ls i lt) ∙ ap (λ (x : List ℕ). take i (map f ls) ++ x ∷ []) (get_or-map f ls i d [] lt) in (
        ts ++ turns_of said,
        subst (λ (xs : List (List ℕ)). IsScheduleText xs (ts ++ turns_of said)) (sym more) (text_push (take i (map f ls)) (f (slice_index_or ls i d)) said ts text one after.allowed),
        after,
      )

  pub line_refused : (f : L → List ℕ) (ls : List L) (i : ℕ) (d : L) (ts : List (Turn Outcome)) → i < length ls → IsScheduleText (take i (map f ls)) ts → IsBadLine ts (words (f (slice_index_or ls i d))) → IsBadAt (map f ls) (i + 1)
  line_refused f ls i d ts lt text bad = record {
    before = i;
    line = refl;
    within = within_map f ls i lt;
    front = ts;
    good = text;
    bad = subst (λ (x : List ℕ). IsBadLine ts (words x)) (sym (get_or-map f ls i d [] lt)) bad;
  }

pub said_line : (ws : List (List ℕ)) (o : Option ScheduleLine) (s : ScheduleLine) → IsLine ws o → o ≡ Some s → Spells ws s
unfolding IsLine
said_line ws o s is same = subst (λ (x : Option ScheduleLine). IsLine ws x) same is

pub no_line : (ws : List (List ℕ)) (o : Option ScheduleLine) → IsLine ws o → ((s : ScheduleLine) → o ≡ Some s → ⊥) → (l : ScheduleLine) → Spells ws l → ⊥
unfolding IsLine
no_line ws None is none l one = is l one
no_line ws (Some s) is none l one = none s refl
