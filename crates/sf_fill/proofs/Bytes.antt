-- the bytes alone of what is answered
use Rattle.std.proofs.Common.{◌≡◌, ℕ, ◌⊎◌, inl, inr, List, [], Option, Some, None, IfSome, IfNone, Result, Ok, Err, IfOk, false, refl, sym, ap, ◌∙◌, subst, alloc_error}
use Rattle.std.specs.declared.alloc.AllocError.{AllocError}
use Rattle.std.proofs.lemmas.List.{append-nil}
use Rattle.std.specs.Borrow.{MutBor}
use Rattle.sf_group_rows.specs.Notes.{HasLent}
use Rattle.sf_group_rows.specs.Tokens.{LetterValue}
use Rattle.sf_history.specs.declared.call.CallId.{CallId}
use Rattle.sf_loaders.specs.declared.faults.LocalFault.{LocalFault}
use Rattle.sf_fill_keys.specs.Spaces.{SpaceId}
use Rattle.sf_fill_keys.specs.Spots.{spot_key, spot_place}
use Rattle.sf_fill_values.specs.declared.fault.LoadFault.{LoadFault}
use Rattle.sf_fill_values.specs.declared.fault.LoadFault.TheVariants as fault
use Rattle.sf_fill_values.specs.Answers.{GetAnswer, IsLoadedFor, answer_in}
use Rattle.sf_fill_values.specs.FillValue.{Filled}
use Rattle.sf_fill.specs.declared.hit.Hit.{Hit}
use Rattle.sf_fill.specs.declared.hit.Hit.TheVariants.{Near, Far}
use Rattle.sf_fill.specs.Bytes.{BringsBytes, bytes_by, bytes_in}
use Rattle.sf_fill.specs.GetterValue.{GetterValue, with_loaders}
use Rattle.sf_fill.specs.Gets.{LooksFrom}
use Rattle.sf_fill_store.specs.declared.standing.Standing.{Standing}
use Rattle.sf_fill_store.specs.declared.standing.Standing.TheVariants.{Free, Owing}
use Rattle.sf_fill_store.specs.Standings.{is_owing}
use Rattle.sf_fill.specs.Hits.{IsAbsent, IsPresent, hit_answer}
use Rattle.sf_fill.specs.Lookups.{ShowsBytes, ShowsHit}
use Rattle.sf_fill.proofs.Once.{present_fresh}

lent_itself : (l : LetterValue Filled) → HasLent l l
lent_itself l = record { group = refl; place = refl; call = refl; value = refl; count = refl; shows = ([], sym (append-nil l.seen)) }

module _ {D N O : Type 0} (stated : List ℕ → CallId → List ℕ → Type 0) (key : List ℕ) (hit : Hit D N O) where
  -- the bytes of a near letter
  pub near_bytes : (m : MutBor (LetterValue Filled)) (bytes : List ℕ) → hit ≡ Near m → m.now.value.result ≡ Ok bytes → answer_in m.now ≡ Ok m.now → spot_key m.now.value.spot ≡ key → IsLoadedFor stated key m.now
      → ShowsBytes stated key hit (Ok bytes)
  near_bytes m bytes is result answers keyed loaded =
      subst (λ (h : Hit D N O). ShowsBytes stated key h (Ok bytes)) (sym is) (record {
        answer = Ok m.now;
        shown = (Ok m.now, lent_itself m.now, sym answers);
        bytes_are = sym (ap (λ (r : Result (List ℕ) LocalFault). bytes_by r) result);
        keyed = keyed;
        loaded = loaded;
      })

  -- memory for them was refused
  pub near_memory : (m : MutBor (LetterValue Filled)) → hit ≡ Near m → ShowsBytes stated key hit (Err fault.Memory)
  near_memory m is =
      subst (λ (h : Hit D N O). ShowsBytes stated key h (Err fault.Memory)) (sym is) (record {
        answer = Err fault.Memory;
        shown = (Err alloc_error, tt, refl);
        bytes_are = refl;
        keyed = tt;
        loaded = tt;
      })

  -- the bytes of a letter of the caches
  pub far_bytes : (found : Result (LetterValue Filled) AllocError) (answer : GetAnswer) (bytes : Result (List ℕ) LoadFault) → hit ≡ Far found → answer ≡ hit_answer found → bytes ≡ bytes_in answer
      → IfOk answer (λ (l : LetterValue Filled). spot_key l.value.spot ≡ key) → IfOk answer (IsLoadedFor stated key) → ShowsBytes stated key hit bytes
  far_bytes found answer bytes is answers says keyed loaded =
      subst (λ (h : Hit D N O). ShowsBytes stated key h bytes) (sym is) (record { answer = answer; shown = answers; bytes_are = says; keyed = keyed; loaded = loaded })

  -- who owes nothing is brought bytes that are as fresh as a get's
  pub brings_bytes : {L : Type 0} (space : SpaceId) (own : List ℕ) (old new : GetterValue L) (bytes : Result (List ℕ) LoadFault) → own ≡ key → is_owing old.standing ≡ false
      → ((answer : GetAnswer) → ShowsHit hit answer → IsPresent space key old new answer) → ShowsBytes stated own hit bytes → BringsBytes space stated key old new bytes
  brings_bytes space own old new bytes is free present shows =
      let h : ShowsBytes stated key hit bytes = subst (λ (k : List ℕ). ShowsBytes stated k hit bytes) is shows in
      record {
        answer = h.answer;
        bytes_are = h.bytes_are;
        present = present h.answer h.shown;
        fresh = present_fresh space key old new h.answer free (present h.answer h.shown);
        keyed = h.keyed;
        loaded = h.loaded;
      }

-- a letter was at hand for one who owed nothing
free_looked : {E : Type 0} (s t : Standing Filled) (place : ℕ) (found : Result (LetterValue Filled) E) → LooksFrom s place (Some found) t → is_owing s ≡ false
free_looked (Free c) t place found h = refl
free_looked (Owing s) t place found h = let no : Some found ≡ None = h.0 in cc

-- the same of getters with loaders
module _ {L : Type 0} (loaders : L) (space : SpaceId) (key : List ℕ) (old new : GetterValue (Unit {0})) where
  present_with : (answer : GetAnswer) → IsPresent space key old new answer → IsPresent space key (with_loaders old loaders) (with_loaders new loaders) answer
  present_with answer h = record {
    seeing = h.seeing;
    spot = h.spot;
    resolved = h.resolved;
    at_hand = record { found = h.at_hand.found; looked = h.at_hand.looked; answer_is = h.at_hand.answer_is; rest = ap (λ (g : GetterValue (Unit {0})). with_loaders g loaders) h.at_hand.rest };
  }

  brings_with : (stated : List ℕ → CallId → List ℕ → Type 0) (bytes : Result (List ℕ) LoadFault) → BringsBytes space stated key old new bytes
      → BringsBytes space stated key (with_loaders old loaders) (with_loaders new loaders) bytes
  brings_with stated bytes h =
      let present = present_with h.answer h.present in
      record {
        answer = h.answer;
        bytes_are = h.bytes_are;
        present = present;
        fresh = present_fresh space key (with_loaders old loaders) (with_loaders new loaders) h.answer
            (free_looked old.standing new.standing (spot_place h.present.spot) h.present.at_hand.found h.present.at_hand.looked) present;
        keyed = h.keyed;
        loaded = h.loaded;
      }

  absent_with : IsAbsent space old new → IsAbsent space (with_loaders old loaders) (with_loaders new loaders)
  absent_with h = record {
    place = h.place;
    seeing = h.seeing;
    none = record { looked = h.none.looked; rest = ap (λ (g : GetterValue (Unit {0})). with_loaders g loaders) h.none.rest };
  }

  -- over the parts of a getter
  module _ (getter : GetterValue L) (is : with_loaders old loaders ≡ getter) where
    pub getter_brings : (stated : List ℕ → CallId → List ℕ → Type 0) (r : Option (Result (List ℕ) LoadFault)) → IfSome r (BringsBytes space stated key old new) → IfSome r (BringsBytes space stated key getter (with_loaders new loaders))
    getter_brings stated None h = tt
    getter_brings stated (Some b) h = subst (λ (g : GetterValue L). BringsBytes space stated key g (with_loaders new loaders) b) is (brings_with stated b h)

    pub getter_lacks : (r : Option (Result (List ℕ) LoadFault)) → IfNone r ((new ≡ old) ⊎ IsAbsent space old new) → r ≡ None → (with_loaders new loaders ≡ getter) ⊎ IsAbsent space getter (with_loaders new loaders)
    getter_lacks None (inl same) empty = inl (ap (λ (g : GetterValue (Unit {0})). with_loaders g loaders) same ∙ is)
    getter_lacks None (inr h) empty = inr (subst (λ (g : GetterValue L). IsAbsent space g (with_loaders new loaders)) is (absent_with h))
    getter_lacks (Some b) h empty = cc
