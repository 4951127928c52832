-- a text holds a history exactly where its lines are records of it, and else fails at its least bad line
use Rattle.std.proofs.Common.{◌≡◌, ◌↔◌, ◌⊎◌, ℕ, ◌+◌, List, [], ◌∷◌, ◌++◌, length, Option, Some, None, Ok, Err, inl, inr, refl, sym, ◌∙◌, ap, subst, arith, append-nil, append_assoc}
use Rattle.std.proofs.lemmas.List.{length-append}
use Rattle.sf_replay.specs.Record.{TextEvent}
use Rattle.sf_replay.specs.RecordText.{record_of, format_of, record_lines, then_events, events_of, history_after, history_of_lines, history_of, RecordEach, AreRecords, IsLeastBadRecord, IsLeastBad, HistoryIsRecords, FailureIsLeastBad}

module _ (format : ℕ) where
  -- the lines record what comes after these events
  abbrev Goes : List TextEvent → List (List ℕ) → List TextEvent → Type 0
  Goes before ls h = (es : List TextEvent) × (h ≡ before ++ es) × RecordEach format before ls es

  records_from : (before : List TextEvent) (ls : List (List ℕ)) (h : List TextEvent) → events_of format before ls ≡ Ok h → Goes before ls h
  records_from before [] h is = let same : before ≡ h = cc in ([], sym same ∙ sym (append-nil before), tt)
  records_from before (l ∷ ls) h is = at (record_of format before l) refl (λ e. records_from (before ++ e ∷ []) ls h) is
    where
      at : (o : Option TextEvent) → record_of format before l ≡ o → ((e : TextEvent) → events_of format (before ++ e ∷ []) ls ≡ Ok h → Goes (before ++ e ∷ []) ls h)
          → then_events (length before + 2) o (λ e. events_of format (before ++ e ∷ []) ls) ≡ Ok h → Goes before (l ∷ ls) h
      at None here more is = cc
      at (Some e) here more is = let rest = more e is in (e ∷ rest.0, rest.1 ∙ append_assoc before (e ∷ []) rest.0, (here, rest.2))

  from_records : (before : List TextEvent) (ls : List (List ℕ)) (es : List TextEvent) → RecordEach format before ls es → events_of format before ls ≡ Ok (before ++ es)
  from_records before [] [] is = ap Ok (sym (append-nil before))
  from_records before [] (e ∷ es) is = absurd is
  from_records before (l ∷ ls) [] is = absurd is
  from_records before (l ∷ ls) (e ∷ es) is =
      ap (λ o. then_events (length before + 2) o (λ e. events_of format (before ++ e ∷ []) ls)) is.0 ∙ from_records (before ++ e ∷ []) ls es is.1 ∙ ap Ok (append_assoc before (e ∷ []) es)

  -- some lines record what comes after these events, and the next one, which is this one, records nothing after it
  record FailsAfter (before : List TextEvent) (ls : List (List ℕ)) (n : ℕ) : Type 0 where
    good : List (List ℕ)
    bad : List ℕ
    rest : List (List ℕ)
    events : List TextEvent
    stands : ls ≡ good ++ bad ∷ rest
    recorded : RecordEach format before good events
    refused : record_of format (before ++ events) bad ≡ None
    counted : n ≡ length before + (length good + 2)

  bad_from : (before : List TextEvent) (ls : List (List ℕ)) (n : ℕ) → events_of format before ls ≡ Err n → FailsAfter before ls n
  bad_from before [] n is = cc
  bad_from before (l ∷ ls) n is = at (record_of format before l) refl (λ e. bad_from (before ++ e ∷ []) ls n) is
    where
      at : (o : Option TextEvent) → record_of format before l ≡ o → ((e : TextEvent) → events_of format (before ++ e ∷ []) ls ≡ Err n → FailsAfter (before ++ e ∷ []) ls n)
          → then_events (length before + 2) o (λ e. events_of format (before ++ e ∷ []) ls) ≡ Err n → FailsAfter before (l ∷ ls) n
      at None here more is =
          let same : length before + 2 ≡ n = cc in
          record { good = []; bad = l; rest = ls; events = []; stands = refl; recorded = tt; refused = subst (λ z. record_of format z l ≡ None) (sym (append-nil before)) here; counted = sym same }
      at (Some e) here more is =
          let later = more e is in
          record {
            good = l ∷ later.good;
            bad = later.bad;
            rest = later.rest;
            events = e ∷ later.events;
            stands = ap (λ z. l ∷ z) later.stands;
            recorded = (here, later.recorded);
            refused = subst (λ z. record_of format z later.bad ≡ None) (append_assoc before (e ∷ []) later.events) later.refused;
            counted = omega (arith, later.counted, length-append before (e ∷ []));
          }

  from_bad : (before : List TextEvent) (good : List (List ℕ)) (bad : List ℕ) (rest : List (List ℕ)) (events : List TextEvent) → RecordEach format before good events → record_of format (before ++ events) bad ≡ None
      → events_of format before (good ++ bad ∷ rest) ≡ Err (length before + (length good + 2))
  from_bad before [] bad rest [] recorded refused =
      ap (λ o. then_events (length before + 2) o (λ e. events_of format (before ++ e ∷ []) rest)) (subst (λ z. record_of format z bad ≡ None) (append-nil before) refused)
  from_bad before [] bad rest (e ∷ events) recorded refused = absurd recorded
  from_bad before (l ∷ good) bad rest [] recorded refused = absurd recorded
  from_bad before (l ∷ good) bad rest (e ∷ events) recorded refused =
      let later = from_bad (before ++ e ∷ []) good bad rest events recorded.1 (subst (λ z. record_of format z bad ≡ None) (sym (append_assoc before (e ∷ []) events)) refused) in
      ap (λ o. then_events (length before + 2) o (λ e. events_of format (before ++ e ∷ []) (good ++ bad ∷ rest))) recorded.0 ∙ later ∙ ap Err (omega (arith, length-append before (e ∷ [])))

  pub least_bad : (ls : List (List ℕ)) (n : ℕ) → events_of format [] ls ≡ Err n → IsLeastBadRecord format ls n
  least_bad ls n is =
      let fails = bad_from [] ls n is in
      record { good = fails.good; bad = fails.bad; rest = fails.rest; events = fails.events; stands = fails.stands; recorded = fails.recorded; refused = fails.refused; counted = omega (arith, fails.counted) }

  pub fails_there : (ls : List (List ℕ)) (n : ℕ) → IsLeastBadRecord format ls n → events_of format [] ls ≡ Err n
  fails_there ls n is = ap (events_of format []) is.stands ∙ from_bad [] is.good is.bad is.rest is.events is.recorded is.refused ∙ ap Err (omega (arith, is.counted))

lines_records : (ls : List (List ℕ)) (h : List TextEvent) → (history_of_lines ls ≡ Ok h) ↔ AreRecords ls h
lines_records [] h = (λ is. cc, λ is. absurd is)
lines_records (first ∷ ls) h = at (format_of first)
  where
    at : (o : Option ℕ) → (history_after o ls ≡ Ok h) ↔ ((format : ℕ) × (o ≡ Some format) × RecordEach format [] ls h)
    at None = (λ is. cc, λ is. let no = is.1 in cc)
    at (Some format) = (
      λ is. let found = records_from format [] ls h is in (format, refl, subst (RecordEach format [] ls) (sym found.1) found.2),
      λ is. let same : format ≡ is.0 = let e = is.1 in cc in from_records format [] ls h (subst (λ z. RecordEach z [] ls h) (sym same) is.2),
    )

lines_bad : (ls : List (List ℕ)) (n : ℕ) → (history_of_lines ls ≡ Err n) ↔ IsLeastBad ls n
lines_bad [] n = (λ is. let same : 1 ≡ n = cc in sym same, λ is. ap Err (sym is))
lines_bad (first ∷ ls) n = at (format_of first)
  where
    at : (o : Option ℕ) → (history_after o ls ≡ Err n) ↔ (((o ≡ None) × (n ≡ 1)) ⊎ ((format : ℕ) × (o ≡ Some format) × IsLeastBadRecord format ls n))
    at None = (
      λ is. let same : 1 ≡ n = cc in inl (refl, sym same),
      λ is. elim is [
        | inl missing ↦ ap Err (sym missing.1)
        | inr found ↦ let no = found.1 in cc
      ],
    )
    at (Some format) = (
      λ is. inr (format, refl, least_bad format ls n is),
      λ is. elim is [
        | inl missing ↦ let no = missing.0 in cc
        | inr found ↦ let same : format ≡ found.0 = let e = found.1 in cc in fails_there format ls n (subst (λ z. IsLeastBadRecord z ls n) (sym same) found.2)
      ],
    )

pub history_is_records : HistoryIsRecords
unfolding history_of
history_is_records text h = lines_records (record_lines text) h

pub failure_is_least_bad : FailureIsLeastBad
unfolding history_of
failure_is_least_bad text n = lines_bad (record_lines text) n
