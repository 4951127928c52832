-- What a desk's walk keeps and learns.
use Rattle.std.proofs.Common.{Bool, true, false, ◌≡◌, ◌≢◌, ℕ, suc, ◌+◌, ◌-◌, ◌%◌, ◌<◌, ◌≤◌, inl, inr, ⊎_elim, List, [], ◌∷◌, ◌++◌, length, take, refl, sym, ap, ◌∙◌, subst, append_assoc, Option, Some, None, arith}
use mathlib.Core.Logic.{dite}
use native.Mathlib.Decide.{ℕ_discrete, dec_le}
use Rattle.std.specs.Prelude.{slice_index}
use Rattle.std.specs.List.{Contains}
use Rattle.std.proofs.lemmas.List.{append-nil, length_push, length-take-le, get_or_push, get_or_append_left, get_or-take}
use Rattle.std.proofs.lemmas.List.Elements.{Contains-append_left}
use Rattle.std.proofs.Math.Nat.{mod-eq_of_lt, add-mod_right}
use Rattle.std.specs.Bool.{OnTrue, OnFalse}
use Rattle.sf_dir.specs.declared.rule.DirectorySizes.{DirectorySizes}
use Rattle.sf_dir.specs.declared.rule.Entry.{Entry}
use Rattle.sf_dir.specs.declared.rule.Spare.{Spare}
use Rattle.sf_dir.specs.declared.rule.View.{View}
use Rattle.sf_dir.specs.Names.{Name}
use Rattle.sf_dir.specs.KeyRow.{row_word, place_after, hash_of, first_index}
use Rattle.sf_dir.specs.Rule.{StandsFor, name_of, own_names, IsTaken, IsPlaceWord, IsKey, IsSound, AllHeard}
use Rattle.sf_dir.specs.WordIndex.{row_width, row_count, row_at}
use Rattle.sf_dir.specs.Plays.{Grows, Looked, Wrote, Publishes}
use Rattle.sf_dir.specs.Walk.{MayPublish, Resolves, Passes, HoldsSpare, IsWritten, IsReached, spare_row}
use Rattle.sf_dir.proofs.Elements.{own_append, heard_longer}
use Rattle.sf_dir.proofs.Rows.{row_word_at}
use Rattle.sf_dir.proofs.Keys.{same_key}

-- a seat that knows nothing new
pub grows_none : (z : DirectorySizes) (v : View) → v.sizes ≡ Some z → v.told ≡ [] → IsSound z v.seen → Grows v v []
grows_none z v sizes told sound = record {
  sizes = refl;
  from = refl;
  to = refl;
  told = told;
  more = [];
  seen = sym (append-nil v.seen);
  own = λ d s. refl;
  heard = subst (AllHeard v.seen) (sym told) tt;
  sound = λ y e. let same : z ≡ y = cc in subst (λ q. IsSound q v.seen) same sound;
}

pub grows_again : (v w x : View) (a b : List Name) → Grows v w a → Grows w x b → Grows v x (a ++ b)
grows_again v w x a b f g = record {
  sizes = g.sizes ∙ f.sizes;
  from = g.from ∙ f.from;
  to = g.to ∙ f.to;
  told = g.told;
  more = f.more ++ g.more;
  seen = g.seen ∙ (ap (λ q. q ++ g.more) f.seen ∙ append_assoc v.seen f.more g.more);
  own = λ d s. own_append d f.more g.more ∙ (ap (λ q. q ++ own_names d g.more) (f.own d s) ∙ ap (λ q. a ++ q) (g.own d (stands d s)));
  heard = subst (λ q. AllHeard q v.told) (sym g.seen) (heard_longer w.seen g.more v.told f.heard);
  sound = λ z e. g.sound z (f.sizes ∙ e);
}
  where
    stands : (d : ℕ) → StandsFor v d → StandsFor w d
    stands d s = let l = f.from in let h = f.to in let p = s.0 in let q = s.1 in (omega arith, omega arith)

-- what is seen stays seen
pub grows_contains : (v w : View) (a : List Name) (e : Entry) → Grows v w a → Contains v.seen e → Contains w.seen e
grows_contains v w a e g c = subst (λ q. Contains q e) (sym g.seen) (Contains-append_left v.seen g.more e c)

pub grows_taken : (v w : View) (a : List Name) (place : ℕ) (key : List ℕ) → Grows v w a → IsTaken v.seen place key → IsTaken w.seen place key
grows_taken v w a place key g t = (t.0, grows_contains v w a (t.0) g t.1, t.2, t.3)

-- one spare row
pub holds_some : (z : DirectorySizes) (v : View) (s : Spare) (row : ℕ) → v.spare ≡ Some s → s.row ≡ row → row < row_count z → HoldsSpare z v (Some row)
holds_some z v s row has is lt = record {
  row_is = ap spare_row has ∙ ap (λ n. Some n) is;
  within = λ y e. let same : s ≡ y = cc in subst (λ (q : Spare). q.row < row_count z) same (omega arith);
}

pub holds_none : (z : DirectorySizes) (v : View) → v.spare ≡ None → HoldsSpare z v None
holds_none z v e = record { row_is = ap spare_row e; within = λ y q. cc }

pub holds_same : (z : DirectorySizes) (v w : View) (row : Option ℕ) → w.spare ≡ v.spare → HoldsSpare z v row → HoldsSpare z w row
holds_same z v w row e h = record { row_is = ap spare_row e ∙ h.row_is; within = λ s q. h.within s (sym e ∙ q) }

-- which spare row a seat has
pub the_spare : (z : DirectorySizes) (v : View) (row : ℕ) → HoldsSpare z v (Some row) → (s : Spare) × (v.spare ≡ Some s) × (s.row ≡ row) × (row < row_count z)
the_spare z v row h = at v.spare refl
  where
    at : (o : Option Spare) → v.spare ≡ o → (s : Spare) × (v.spare ≡ Some s) × (s.row ≡ row) × (row < row_count z)
    at None e = let none : spare_row v.spare ≡ None = ap spare_row e in let some : spare_row v.spare ≡ Some row = h.row_is in cc
    at (Some s) e = let is : spare_row v.spare ≡ Some s.row = ap spare_row e in let some : spare_row v.spare ≡ Some row = h.row_is in let same : s.row ≡ row = cc in let lt = h.within s e in (s, e, same, omega arith)

pub no_spare : (z : DirectorySizes) (v : View) → HoldsSpare z v None → v.spare ≡ None
no_spare z v h = at v.spare refl
  where
    at : (o : Option Spare) → v.spare ≡ o → v.spare ≡ None
    at None e = e
    at (Some s) e = let is : spare_row v.spare ≡ Some s.row = ap spare_row e in let none : spare_row v.spare ≡ None = h.row_is in cc

-- what a look at a row says of each name that stands there
pub row_read : (z y : DirectorySizes) (u v w : View) (start word row j n : ℕ) → Grows u v [] → Looked z word v n w → y ≡ z → start ≡ row_at y row → word ≡ start + j → j < row_width z → (e : Entry) → Contains u.seen e → e.row ≡ row → n ≡ row_word e.key j
row_read z y u v w start word row j n g looked same is at lt e c row_is =
    looked.reads.row e (grows_contains v w [] e looked.grows (grows_contains u v [] e g c)) j lt (row_word_at z y row start j word same is at ∙ ap (λ r. row_at z r + j) (sym row_is))

-- the first look, of a seat that may have been told things
pub row_read_first : (z y : DirectorySizes) (v w : View) (start row n : ℕ) → Looked z start v n w → y ≡ z → start ≡ row_at y row → (e : Entry) → Contains v.seen e → e.row ≡ row → n ≡ length e.key
row_read_first z y v w start row n looked same is e c row_is =
    looked.reads.row e (grows_contains v w [] e looked.grows c) 0 (omega arith) (row_word_at z y row start 0 start same is (omega arith) ∙ ap (λ r. row_at z r + 0) (sym row_is))

pub key_is : (z : DirectorySizes) (v w : View) (e : Entry) → v.sizes ≡ Some z → Grows v w [] → Contains v.seen e → IsKey z e.key
key_is z v w e sizes g c = ((g.sound z sizes).keys e (grows_contains v w [] e g c)).0

-- the words of a row, with one more
pub words_more : (words : List ℕ) (key : List ℕ) (j n : ℕ) → j ≤ length words → ((i : ℕ) → i < j → slice_index words i ≡ row_word key i) → n ≡ row_word key j → (i : ℕ) → i < j + 1 → slice_index (take j words ++ n ∷ []) i ≡ row_word key i
words_more words key j n le before is i lt = dite (ℕ_discrete i j)
    (λ e. ap (slice_index (take j words ++ n ∷ [])) e ∙ (get_or_push (take j words) n 0 j (length-take-le j words le) ∙ (is ∙ ap (row_word key) (sym e))))
    (λ d. let low : i < j = grind (arith, d, lt) in let front = length-take-le j words le in get_or_append_left (take j words) (n ∷ []) 0 i (omega arith) ∙ (get_or-take j words i 0 low ∙ before i low))

-- a key's row, with one more word written
written_at : (z y : DirectorySizes) (v w : View) (s : Spare) (start row word j n : ℕ) (key : List ℕ) → v.spare ≡ Some s → s.row ≡ row → j ≤ length s.words → ((i : ℕ) → i < j → slice_index s.words i ≡ row_word key i)
    → Wrote z word v n w → y ≡ z → start ≡ row_at y row → word ≡ start + j → n ≡ row_word key j → IsWritten w row key (j + 1)
written_at z y v w s start row word j n key has row_is le before wrote same is at value =
    let place : word ≡ row_at z s.row + j = row_word_at z y row start j word same is at ∙ ap (λ r. row_at z r + j) (sym row_is) in
    record {
      spare = record { row = s.row; words = take j s.words ++ n ∷ [] };
      has = wrote.spare s j has place;
      row_is = row_is;
      written = length_push (take j s.words) n ∙ ap (λ k. k + 1) (length-take-le j s.words le);
      words = words_more s.words key j n le before value;
    }

pub written_first : (z y : DirectorySizes) (v w : View) (start row n : ℕ) (key : List ℕ) → HoldsSpare z v (Some row) → Wrote z start v n w → y ≡ z → start ≡ row_at y row → n ≡ length key → IsWritten w row key 1
written_first z y v w start row n key holds wrote same is value =
    let s = the_spare z v row holds in
    written_at z y v w (s.0) start row start 0 n key s.1 s.2 (omega arith) (λ i lt. absurd (omega arith)) wrote same is (omega arith) value

pub written_more : (z y : DirectorySizes) (v w : View) (start row word j k n : ℕ) (key : List ℕ) → IsWritten v row key j → Wrote z word v n w → y ≡ z → start ≡ row_at y row → word ≡ start + j → n ≡ row_word key j → k ≡ j + 1 → IsWritten w row key k
written_more z y v w start row word j k n key was wrote same is at value next =
    let long = was.written in
    subst (IsWritten w row key) (sym next) (written_at z y v w was.spare start row word j n key was.has was.row_is (omega arith) was.words wrote same is at value)

-- the word that is to be written is the row's next
pub may_write : (z y : DirectorySizes) (v : View) (start row word j : ℕ) (key : List ℕ) → IsWritten v row key j → y ≡ z → start ≡ row_at y row → word ≡ start + j → j < row_width z → (s : Spare) × (i : ℕ) × (v.spare ≡ Some s) × (word ≡ row_at z s.row + i) × (i < row_width z) × (i ≤ length s.words)
may_write z y v start row word j key was same is at lt =
    let long = was.written in
    (was.spare, j, was.has, row_word_at z y row start j word same is at ∙ ap (λ r. row_at z r + j) (sym was.row_is), lt, omega arith)

pub may_write_first : (z y : DirectorySizes) (v : View) (start row : ℕ) → HoldsSpare z v (Some row) → y ≡ z → start ≡ row_at y row → (s : Spare) × (i : ℕ) × (v.spare ≡ Some s) × (start ≡ row_at z s.row + i) × (i < row_width z) × (i ≤ length s.words)
may_write_first z y v start row holds same is =
    let s = the_spare z v row holds in
    (s.0, 0, s.1, row_word_at z y row start 0 start same is (omega arith) ∙ ap (λ r. row_at z r + 0) (sym s.2), omega arith, omega arith)

-- what was reached stays so
pub reached_more : (z : DirectorySizes) (v w : View) (place : ℕ) (key : List ℕ) → Grows v w [] → IsReached z v place key → IsReached z w place key
reached_more z v w place key g r = record { passed = r.passed; within = r.within; place_is = r.place_is; before = λ k lt. grows_taken v w [] (place_after z key k) key g (r.before k lt) }

-- the desk may publish its row where the walk has come
pub may_publish : (z : DirectorySizes) (v w : View) (place row : ℕ) (key : List ℕ) → IsReached z v place key → Grows v w [] → IsWritten w row key (row_width z) → length key ≤ z.key_bytes → ((i : ℕ) → slice_index key i < 256) → MayPublish z w place row key
may_publish z v w place row key reached g written short small = record { written = written; reached = reached_more z v w place key g reached; is_key = (short, small) }

-- the key of a row that holds a key's words is that key
row_key : (z : DirectorySizes) (a b : List ℕ) → IsKey z a → IsKey z b → ((i : ℕ) → i < row_width z → row_word a i ≡ row_word b i) → a ≡ b
row_key z a b is_a is_b same = let short = is_a.0 in same_key a b is_a.1 is_b.1 (same 0 (omega arith)) (λ i lt. same (suc i) (omega arith))

-- what is published is the key
pub has_won : (z : DirectorySizes) (v w x : View) (place row : ℕ) (key : List ℕ) → Grows v w [] → IsWritten w row key (row_width z) → length key ≤ z.key_bytes → ((i : ℕ) → slice_index key i < 256) → Publishes z place w x → Resolves v x place key
has_won z v w x place row key g written short small p = record {
  entry = p.entry;
  stands = p.stands;
  place_is = p.place_is;
  key_is = row_key z p.entry.key key p.key (short, small) (λ i lt. sym (p.row written.spare written.has i lt) ∙ written.words i lt);
  grows = inr (p.by ∙ g.from, grows_again v w x [] _ g p.grows);
}

-- a place word that is no 0 names a row
pub found_row : (h : List Entry) (place n : ℕ) → n ≢ 0 → IsPlaceWord h place n → (e : Entry) × Contains h e × (e.place ≡ place) × (e.row ≡ n - 1)
found_row h place n d (inl w) = absurd (d w.0)
found_row h place n d (inr w) = let is = w.3 in (w.0, w.1, w.2, omega arith)

pub found_within : (z : DirectorySizes) (v w : View) (place n : ℕ) → v.sizes ≡ Some z → Grows v w [] → n ≢ 0 → IsPlaceWord w.seen place n → n - 1 < row_count z
found_within z v w place n sizes g d there = let e = found_row w.seen place n d there in let lt = ((g.sound z sizes).keys (e.0) e.1).1 in let is = e.3 in omega arith

pub found_key : (v w x : View) (place n : ℕ) (key : List ℕ) → n ≢ 0 → Grows v w [] → IsPlaceWord w.seen place n → Grows w x [] → ((e : Entry) → Contains w.seen e → e.row ≡ n - 1 → e.key ≡ key) → Resolves v x place key
found_key v w x place n key d g there f is =
    let e = found_row w.seen place n d there in
    record { entry = e.0; stands = grows_contains w x [] (e.0) f e.1; place_is = e.2; key_is = is (e.0) e.1 e.3; grows = inl (grows_again v w x [] [] g f) }

pub found_other : (v w x : View) (place n : ℕ) (key : List ℕ) → n ≢ 0 → Grows v w [] → IsPlaceWord w.seen place n → Grows w x [] → ((e : Entry) → Contains w.seen e → e.row ≡ n - 1 → e.key ≢ key) → Passes v x place key
found_other v w x place n key d g there f isnt =
    let e = found_row w.seen place n d there in
    record { grows = grows_again v w x [] [] g f; taken = (e.0, grows_contains w x [] (e.0) f e.1, e.2, isnt (e.0) e.1 e.3) }

-- what was resolved from a later view was resolved from the earlier one
pub resolves_from : (v w x : View) (place : ℕ) (key : List ℕ) → Grows v w [] → Resolves w x place key → Resolves v x place key
resolves_from v w x place key g r = record {
  entry = r.entry;
  stands = r.stands;
  place_is = r.place_is;
  key_is = r.key_is;
  grows = ⊎_elim (λ (a : Grows w x []). inl (grows_again v w x [] [] g a)) (λ (a : (r.entry.by ≡ w.from) × Grows w x (name_of r.entry ∷ [])). inr (a.0 ∙ g.from, grows_again v w x [] _ g a.1)) r.grows;
}

-- the walk comes to each place
pub comes_by : (keys start place : ℕ) → start < keys → 1 ≤ place → place ≤ keys → (k : ℕ) × (k < keys) × ((start + k) % keys + 1 ≡ place)
comes_by keys start place lt low high = by (dec_le start (place - 1))
  where
    by : Dec (start ≤ place - 1) → (k : ℕ) × (k < keys) × ((start + k) % keys + 1 ≡ place)
    by (yes before) =
        let sum : start + (place - 1 - start) ≡ place - 1 = omega arith in
        let rest : (start + (place - 1 - start)) % keys ≡ place - 1 = ap (λ n. n % keys) sum ∙ mod-eq_of_lt (omega arith) in
        (place - 1 - start, omega arith, omega arith)
    by (no after) =
        let later : place - 1 < start = grind (arith, after) in
        let sum : start + (place - 1 + keys - start) ≡ place - 1 + keys = omega arith in
        let rest : (start + (place - 1 + keys - start)) % keys ≡ place - 1 = ap (λ n. n % keys) sum ∙ (add-mod_right (place - 1) keys ∙ mod-eq_of_lt (omega arith)) in
        (place - 1 + keys - start, omega arith, omega arith)

-- where each place that the walk came to is taken, each place is
pub all_taken : (z : DirectorySizes) (key : List ℕ) (h : List Entry) (place : ℕ) → first_index (hash_of z key) z.keys < z.keys → ((k : ℕ) → k < z.keys → IsTaken h (place_after z key k) key) → 1 ≤ place → place ≤ z.keys → IsTaken h place key
all_taken z key h place lt taken low high =
    let there = comes_by z.keys (first_index (hash_of z key) z.keys) place lt low high in
    let t = taken (there.0) there.1 in
    (t.0, t.1, t.2 ∙ there.2, t.3)

pub when_true : (b : Bool) {A : Type 0} → b ≡ true → OnTrue b A → A
when_true true e a = a
when_true false e a = cc

pub when_false : (b : Bool) {A : Type 0} → b ≡ false → OnFalse b A → A
when_false true e a = cc
when_false false e a = a
