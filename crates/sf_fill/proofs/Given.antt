-- gets whose loaders give known bytes
use Rattle.std.proofs.Common.{◌≡◌, ℕ, inl, inr, List, Some, None, Result, Ok, Err, refl, sym, ap, ◌∙◌, subst}
use Rattle.sf_group_rows.specs.declared.outcomes.Finished.TheVariants.{Done, Held}
use Rattle.sf_group_rows.specs.Tokens.{CallerValue, LetterValue}
use Rattle.sf_loaders.specs.declared.faults.LocalFault.{LocalFault}
use Rattle.sf_loaders.specs.declared.faults.LocalFault.TheVariants as local
use Rattle.sf_loaders.specs.Given.{KnownBytes, GivesKnown}
use Rattle.sf_loaders.specs.LoadPath.{LoadAnswer}
use Rattle.sf_fill_keys.specs.declared.key_space.KeyDesk.{KeyDesk}
use Rattle.sf_fill_keys.specs.declared.spot.Spot.{Spot}
use Rattle.sf_fill_keys.specs.Spaces.{SpaceId}
use Rattle.sf_fill_values.specs.declared.fault.LoadFault.{LoadFault}
use Rattle.sf_fill_store.specs.declared.standing.Standing.{Standing}
use Rattle.sf_fill_store.specs.declared.standing.Standing.TheVariants.{Free, Owing}
use Rattle.sf_fill.specs.declared.put.Put.TheVariants.{Settled, Met}
use Rattle.sf_fill_counters.specs.declared.totals.GetCounts.{GetCounts}
use Rattle.sf_fill_counters.specs.declared.totals.Totals.{Totals}
use Rattle.sf_fill.specs.Counted.{IsCounted}
use Rattle.sf_fill_values.specs.FillValue.{Filled}
use Rattle.sf_fill_store.specs.Found.{Found, FromCache, Uncopied, Unmade, Spent, Joined, Led, HasFoundFrom, HasRun, bytes_in}
use Rattle.sf_fill.specs.Fresh.{IsFreshGet}
use Rattle.sf_fill_values.specs.Answers.{GetAnswer, answer_by}
use Rattle.sf_fill.specs.Gets.{GetsFrom, HasGot}
use Rattle.sf_fill_store.specs.Replies.{Reply, reply_of}
use Rattle.sf_fill.specs.GetterValue.{GetterValue, with_loaders}
use Rattle.sf_fill_store.specs.Logs.{LogValue}
use Rattle.sf_fill.specs.Puts.{GetsGiven, HasBytes, PutAnswer, got_by}

-- the letter has the bytes, of its own call's run
abbrev IsOwn : List ℕ → LetterValue Filled → Type 0
IsOwn bytes l = (l.value.result ≡ Ok bytes) × (l.value.root ≡ l.call)

-- an answered letter is that
abbrev OwnIn : List ℕ → GetAnswer → Type 0
OwnIn bytes answer = (l : LetterValue Filled) → answer ≡ Ok l → IsOwn bytes l

-- what was not asked has its bytes still
unused : (bytes : List ℕ) (old new : KnownBytes) (answer : GetAnswer) → old.bytes ≡ Some bytes → new.bytes ≡ None → new ≡ old → OwnIn bytes answer
unused bytes old new answer had none same = λ l is.
    let clash : None ≡ Some bytes = sym none ∙ (ap (λ (k : KnownBytes). k.bytes) same ∙ had) in
    cc

fault_is_none : (bytes : List ℕ) (answer : GetAnswer) (fault : LoadFault) → answer ≡ Err fault → OwnIn bytes answer
fault_is_none bytes answer fault is = λ l ok.
    let clash : Err fault ≡ Ok l = sym is ∙ ok in
    cc

own_answer : (bytes : List ℕ) (m : LetterValue Filled) (r : Result (List ℕ) LocalFault) → m.value.result ≡ r → r ≡ Ok bytes → m.value.root ≡ m.call → OwnIn bytes (answer_by m r)
own_answer bytes m (Ok found) is ok root = λ l same.
    let letter : m ≡ l = cc in
    subst (IsOwn bytes) letter (is ∙ ok, root)
own_answer bytes m (Err (local.Failed text)) is ok root = λ l same. cc
own_answer bytes m (Err local.Memory) is ok root = λ l same. cc

module _ (key bytes : List ℕ) (draws : KnownBytes → KnownBytes → Type 0) (space : SpaceId) where
  own_run : (p : Spot) (u c : CallerValue Filled) (m : LetterValue Filled) (old new : KnownBytes) (n : GetCounts) → old ≡ record { key = key; bytes = Some bytes } → new.bytes ≡ None
      → HasRun (GivesKnown key) draws p u old new (Done c m) n → OwnIn bytes (reply_of (Led (Done c m) n)).2
  own_run p u c m old new n had none h = elim h.run.source [
    | inl loaded ↦
        let gave = loaded.asked (sym (ap (λ (k : KnownBytes). k.key) had)) bytes (ap (λ (k : KnownBytes). k.bytes) had) in
        let done = h.run.settled.2 in
        let lent = h.run.settled.4 in
        let value : m.value ≡ h.run.value = lent.value ∙ done.letter.value in
        let call : m.call ≡ h.flight.call = lent.call ∙ (done.letter.call ∙ h.run.learnt.call) in
        let result : h.run.value.result ≡ Ok bytes = ap (λ (v : Filled). v.result) loaded.value ∙ ap (λ (o : LoadAnswer). bytes_in o.0) gave.0 in
        own_answer bytes m m.value.result refl (ap (λ (v : Filled). v.result) value ∙ result)
        (ap (λ (v : Filled). v.root) value ∙ (ap (λ (v : Filled). v.root) loaded.value ∙ sym call))
    | inr kept ↦ unused bytes old new (reply_of (Led (Done c m) n)).2 (ap (λ (k : KnownBytes). k.bytes) had) none kept.unasked
  ]

  own_found : (p : Spot) (u : CallerValue Filled) (old new : KnownBytes) (found : Found) → old ≡ record { key = key; bytes = Some bytes } → new.bytes ≡ None
      → HasFoundFrom space key (GivesKnown key) draws p u old new found → OwnIn bytes (reply_of found).2
  own_found p u old new (FromCache c l) had none h = unused bytes old new _ (ap (λ (k : KnownBytes). k.bytes) had) none h.0
  own_found p u old new (Uncopied c) had none h = unused bytes old new _ (ap (λ (k : KnownBytes). k.bytes) had) none h.0
  own_found p u old new (Unmade c) had none h = unused bytes old new _ (ap (λ (k : KnownBytes). k.bytes) had) none h.1
  own_found p u old new (Spent c) had none h = unused bytes old new _ (ap (λ (k : KnownBytes). k.bytes) had) none h.3.1
  own_found p u old new (Joined c l) had none h = unused bytes old new _ (ap (λ (k : KnownBytes). k.bytes) had) none h.3.0
  own_found p u old new (Led (Done c l) n) had none h = own_run p h.1 c l old new n had none h.3
  own_found p u old new (Led (Held s) n) had none h = λ l same. cc

  own_from : (s : Standing Filled) (desk after : KeyDesk) (old new : KnownBytes) (reply : Reply) → old ≡ record { key = key; bytes = Some bytes } → new.bytes ≡ None
      → GetsFrom (GivesKnown key) draws space key s desk after old new reply → OwnIn bytes reply.2
  own_from (Owing s) desk after old new reply had none h = unused bytes old new reply.2 (ap (λ (k : KnownBytes). k.bytes) had) none h.1
  own_from (Free c) desk after old new reply had none h = elim h.1 [
    | inl w ↦ unused bytes old new reply.2 (ap (λ (k : KnownBytes). k.bytes) had) none w.unasked
    | inr w ↦
        let u = w.found_so.0 in
        subst (λ (r : Reply). OwnIn bytes r.2) (sym w.reply_is) (own_found w.spot u old new w.found had none w.found_so.2)
  ]

  own_got : (old new : GetterValue KnownBytes) (answer : GetAnswer) → old.loaders ≡ record { key = key; bytes = Some bytes } → new.loaders.bytes ≡ None
      → HasGot (GivesKnown key) draws space key old new answer → OwnIn bytes answer
  own_got old new answer had none h =
      own_from h.middle.standing h.middle.desk new.desk h.middle.loaders new.loaders (new.standing, h.counts, answer) (ap (λ (g : GetterValue KnownBytes). g.loaders) h.settled.rest ∙ had) none h.got

  -- the put that comes of such a get, over the parts of its getter
  module _ {L : Type 0} (before after : GetterValue (Unit {0})) (loaders : L) (getter : GetterValue L) (is : with_loaders before loaders ≡ getter) (known left : KnownBytes)
      (gives : known ≡ record { key = key; bytes = Some bytes }) (answer : GetAnswer) where
    pub gets_given : (put : PutAnswer) → got_by put ≡ answer → ((l : LetterValue Filled) → put ≡ Ok (Settled l) → left.bytes ≡ None)
        → HasGot (GivesKnown key) draws space key (with_loaders before known) (with_loaders after left) answer → IsFreshGet space key (with_loaders before known) (with_loaders after left) answer
        → IsCounted (with_loaders before known) (with_loaders after left) answer → GetsGiven space key bytes getter (with_loaders after loaders) put
    gets_given put says gone got fresh count =
        let all : KnownBytes = record { key = key; bytes = Some bytes } in
        let old : with_loaders before known ≡ with_loaders getter all = ap (λ (k : KnownBytes). with_loaders before k) gives ∙ ap (λ (g : GetterValue L). with_loaders g all) is in
        record {
          left = left;
          fresh = subst (λ (a : GetAnswer). IsFreshGet {L = KnownBytes} space key (with_loaders getter all) (with_loaders after left) a) (sym says)
              (subst (λ (g : GetterValue KnownBytes). IsFreshGet {L = KnownBytes} space key g (with_loaders after left) answer) old fresh);
          counted = subst (λ (a : GetAnswer). IsCounted {L = KnownBytes} (with_loaders getter all) (with_loaders after left) a) (sym says)
              (subst (λ (g : GetterValue KnownBytes). IsCounted {L = KnownBytes} g (with_loaders after left) answer) old count);
          given = has put says gone;
          unasked = ap (λ (g : GetterValue L). g.loaders) is;
        }
      where
        has : (put : PutAnswer) → got_by put ≡ answer → ((l : LetterValue Filled) → put ≡ Ok (Settled l) → left.bytes ≡ None) → HasBytes bytes put
        has (Ok (Settled l)) says gone = own_got (with_loaders before known) (with_loaders after left) answer gives (gone l refl) got l (sym says)
        has (Ok (Met l)) says gone = tt
        has (Err fault) says gone = tt
