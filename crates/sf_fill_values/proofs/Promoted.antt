-- entries that looks put in front, and what becomes of them
use Rattle.std.proofs.Common.{◌≡◌, ◌≢◌, ℕ, nat_eq, [], Some, Result, Ok, Err, IfOk, IfErr, refl, sym, ◌∙◌, append-nil}
use Rattle.sf_fill_caches.specs.declared.caches.Which.{Which}
use Rattle.sf_history.specs.History.{current_call}
use Rattle.sf_fill_caches.specs.Looks.{item_at, looked}
use Rattle.sf_fill_caches.specs.Trimming.{entries_of, in_one, removed}
use Rattle.sf_fill_caches.proofs.Looking.{looked_then_removed}
use Rattle.sf_group_rows.specs.Tokens.{CallerValue, LetterValue}
use Rattle.sf_group_rows.specs.Notes.{HasLent, HasCopied}
use Rattle.sf_fill_values.specs.FillValue.{Filled, FitsFill}
use Rattle.sf_fill_values.specs.Keeping.{LetterCaches, Promotes, Serves, ServesCurrent, DropsStale}
use Rattle.sf_fill_values.specs.Settled.{IsCurrentLetter}
use Rattle.sf_fill_values.proofs.Looks.{lent_again}

pub lent_itself : (l : LetterValue Filled) → HasLent l l
lent_itself l = record { group = refl; place = refl; call = refl; value = refl; count = refl; shows = ([], sym (append-nil l.seen)) }

module _ (such : LetterValue Filled → Type 0) (place : ℕ) (which : Which) (inside old new : LetterCaches) (is : inside ≡ old) (l : LetterValue Filled) (at : Some l ≡ item_at place (entries_of which inside)) where
  -- a look found the letter, and it was lent before it was copied, or its copy refused
  module _ (E : Type 0) (is_such : such l) (m o : LetterValue Filled) (lent : HasLent l m) where
    promotes : HasLent m o → new ≡ in_one (looked place o) which inside → Promotes place which l old new
    promotes on entries = record { was = rw (← is) (sym at); then = o; lent = lent_again l m o lent on; entries = rw (← is) entries }

    pub serves : (copy : Result (LetterValue Filled) E) → IfOk copy (λ n. HasCopied FitsFill m o n) → IfErr copy (λ e. o ≡ m) → new ≡ in_one (looked place o) which inside → Serves such place which old (Some copy) new
    serves (Ok n) copied refused entries = (l, is_such, promotes copied.0 entries, lent_again l m n lent copied.1)
    serves (Err e) copied refused entries = (l, is_such, promotes (rw refused (lent_itself m)) entries, tt)

    pub serves_current : (c d : CallerValue Filled) → IsCurrentLetter c place l d → (copy : Result (LetterValue Filled) E) → IfOk copy (λ n. HasCopied FitsFill m o n) → IfErr copy (λ e. o ≡ m) → new ≡ in_one (looked place o) which inside
        → ServesCurrent such place which c d old (Some copy) new
    serves_current c d current (Ok n) copied refused entries = (l, is_such, current, promotes copied.0 entries, lent_again l m n lent copied.1)
    serves_current c d current (Err e) copied refused entries = (l, is_such, current, promotes (rw refused (lent_itself m)) entries, tt)

  -- it was of no current call, and left
  pub drops_stale : such l → (w : LetterValue Filled) (d : CallerValue Filled) → current_call nat_eq d.seen l.place ≢ Some l.call → new ≡ removed which place (in_one (looked place w) which inside) → DropsStale such place which d old new
  drops_stale is_such w d stale left = record { letter = l; was = rw (← is) (sym at); is_such = is_such; stale = stale; left = rw (← is) (left ∙ looked_then_removed place which w inside) }
