-- A publish: one name more, at a place that was empty. Nobody has named the key before, since all walk it in one order.
use Rattle.std.proofs.Common.{◌≡◌, ◌≢◌, ℕ, ◌+◌, ◌%◌, ◌<◌, ◌≤◌, inl, inr, ⊎_elim, true, false, eqb, List, [], ◌∷◌, ◌++◌, length, get_or, set, refl, sym, ap, ◌∙◌, subst, append_assoc, None, mod-lt, arith}
use mathlib.Core.Option.{some, none}
use mathlib.Core.Logic.{dite}
use native.Mathlib.Decide.{ℕ_discrete}
use lib.ListN.{get_elem?}
use prog.Atomic.{either}
use Rattle.std.specs.Prelude.{slice_index, is_some}
use Rattle.std.specs.List.{Contains}
use Rattle.std.proofs.lemmas.List.{append-nil, length-set, set-get_or, get_or-set_same, get_or-set_other}
use Rattle.std.proofs.lemmas.List.Elements.{Contains-append_left, Contains-push, Contains-push_cases, All-push, Contains-get_or}
use Rattle.std.proofs.lemmas.List.Quantifiers.{all_pairs_push}
use Rattle.atomic_table.specs.Table.{State, Me, Act, step, keeps, Allows, Valid, stepped, carried_after}
use Rattle.atomic_table.proofs.Lists.{exchanged}
use Rattle.sf_dir.specs.declared.rule.DirectorySizes.{DirectorySizes}
use Rattle.sf_dir.specs.declared.rule.Entry.{Entry}
use Rattle.sf_dir.specs.declared.rule.Spare.{Spare}
use Rattle.sf_dir.specs.declared.rule.View.{View}
use Rattle.sf_dir.specs.Names.{Name, IsNameList}
use Rattle.sf_dir.specs.KeyRow.{row_word, place_after}
use Rattle.sf_dir.specs.Rule.{name_of, names_of, own_names, IsNamed, IsTaken, IsPlaceWord, IsOnWalk, IsKey, IsSound, is_named, Holders, Shows, Holds}
use Rattle.sf_dir.specs.WordIndex.{row_count, counter_at, row_at}
use Rattle.sf_dir.specs.Plays.{Tried, publishes}
use Rattle.sf_dir.specs.Walk.{MayPublish}
use Rattle.sf_dir.proofs.Counts.{count_to_more}
use Rattle.sf_dir.proofs.Elements.{Contains-map, Contains-unmap, pairs_one, names_append, own_append, own_one, own_other, named_longer, is_named_none, is_named_here, is_named_else, heard_longer}
use Rattle.sf_dir.proofs.Keeps.{seen_all, sees_all, loaded, seats_on, alone_is, stands_alone, drawn_most}
use Rattle.sf_lists.specs.Functions.{put}
use Rattle.sf_lists.proofs.Functions.{put_here, put_else}
use Rattle.sf_lists.proofs.Ends.{sides}

-- two entries of a sound list at one place are of one key
pub one_key : (z : DirectorySizes) (h : List Entry) (e f : Entry) → IsSound z h → Contains h e → Contains h f → e.place ≡ f.place → e.key ≡ f.key
one_key z h e f sound he hf same = ap (λ (n : Name). n.key) (pairs_one (λ (n : Name). n.place) (names_of h) (name_of e) (name_of f) (sound.names.distinct_places) (Contains-map name_of h e he) (Contains-map name_of h f hf) same)

-- where the desk has seen another key at each place of the walk before this one, and this one is empty, the key has no name
pub unnamed_key : (z : DirectorySizes) (h seen rest : List Entry) (key : List ℕ) (passed : ℕ) → h ≡ seen ++ rest → IsSound z h → ¬ (IsNamed h (place_after z key passed))
    → ((k : ℕ) → k < passed → IsTaken seen (place_after z key k) key) → (f : Entry) → Contains h f → f.key ≢ key
unnamed_key z h seen rest key passed splits sound empty before f hf is =
    let walk = sound.walks f hf in
    let there : f.place ≡ place_after z key (walk.0) = walk.2 ∙ ap (λ q. place_after z q (walk.0)) is in
    dite (ℕ_discrete (walk.0) passed)
    (λ same. empty (f, hf, there ∙ ap (place_after z key) same))
    (λ d. ⊎_elim
    (λ (lt : walk.0 < passed).
    let g = before (walk.0) lt in
    g.3 (one_key z h (g.0) f sound (subst (λ q. Contains q (g.0)) (sym splits) (Contains-append_left seen rest (g.0) g.1)) hf (g.2 ∙ sym there) ∙ is))
    (λ (lt : passed < walk.0). empty (subst (IsNamed h) (ap (λ q. place_after z q passed) is) (walk.3 passed lt)))
    (sides (walk.0) passed d))

-- a list with one more name is sound
pub sound_push : (z : DirectorySizes) (h : List Entry) (e : Entry) → IsSound z h → (1 ≤ e.place) × (e.place ≤ z.keys) × (1 ≤ e.by) × (e.by ≤ z.desks) → ¬ (IsNamed h e.place) → ((f : Entry) → Contains h f → f.key ≢ e.key)
    → IsKey z e.key → e.row < row_count z → IsOnWalk z h e → IsSound z (h ++ e ∷ [])
sound_push z h e sound within empty fresh key row walk = record {
  names = subst (IsNameList z.keys z.desks) (sym (names_append h (e ∷ []))) (record {
    within = All-push (λ (n : Name). (1 ≤ n.place) × (n.place ≤ z.keys) × (1 ≤ n.by) × (n.by ≤ z.desks)) (names_of h) (name_of e) (sound.names.within) within;
    distinct_places = all_pairs_push (λ (m n : Name). m.place ≢ n.place) (names_of h) (name_of e) (sound.names.distinct_places) (λ k d lt same. let x = entry (get_or (names_of h) k d) (Contains-get_or (names_of h) k d lt) in empty (x.0, x.1, ap (λ (n : Name). n.place) x.2 ∙ same));
    distinct_keys = all_pairs_push (λ (m n : Name). m.key ≢ n.key) (names_of h) (name_of e) (sound.names.distinct_keys) (λ k d lt same. let x = entry (get_or (names_of h) k d) (Contains-get_or (names_of h) k d lt) in fresh (x.0) x.1 (ap (λ (n : Name). n.key) x.2 ∙ same));
  });
  keys = λ f hf. ⊎_elim (λ (old : Contains h f). sound.keys f old) (λ (new : e ≡ f). subst (λ (q : Entry). IsKey z q.key × (q.row < row_count z)) new (key, row)) (Contains-push_cases h e f hf);
  walks = λ f hf. ⊎_elim (λ (old : Contains h f). longer f (sound.walks f old)) (λ (new : e ≡ f). subst (IsOnWalk z (h ++ e ∷ [])) new (longer e walk)) (Contains-push_cases h e f hf);
}
  where
    entry : (n : Name) → Contains (names_of h) n → (x : Entry) × Contains h x × (name_of x ≡ n)
    entry n c = Contains-unmap name_of h n c

    longer : (f : Entry) → IsOnWalk z h f → IsOnWalk z (h ++ e ∷ []) f
    longer f w = (w.0, w.1, w.2, λ k lt. named_longer h (e ∷ []) (place_after z f.key k) (w.3 k lt))

-- a place word, with one more name elsewhere
pub place_word_else : (h : List Entry) (e : Entry) (p n : ℕ) → e.place ≢ p → IsPlaceWord h p n → IsPlaceWord (h ++ e ∷ []) p n
place_word_else h e p n d (inl w) = inl (w.0, λ named. ⊎_elim (λ (old : Contains h (named.0)). w.1 (named.0, old, named.2)) (λ (new : e ≡ named.0). d (ap (λ (q : Entry). q.place) new ∙ named.2)) (Contains-push_cases h e (named.0) named.1))
place_word_else h e p n d (inr w) = inr (w.0, Contains-append_left h (e ∷ []) (w.0) w.1, w.2, w.3)

published_view : View → List Entry → View
published_view v h = record { sizes = v.sizes; from = v.from; to = v.to; seen = h; spare = None; told = [] }

published_holders : Holders → ℕ → Holders
published_holders o desk = record { seat_of = o.seat_of; keeper_of = o.keeper_of; has_spare = put o.has_spare desk false }

-- the entry that a publish adds
new_entry : View → ℕ → ℕ → List ℕ → Entry
new_entry v place row key = record { place = place; row = row; key = key; by = v.from }

empty_place : (h : List Entry) (p n : ℕ) → n ≡ 0 → IsPlaceWord h p n → ¬ (IsNamed h p)
empty_place h p n e (inl w) = w.1
empty_place h p n e (inr w) = let is = w.3 in absurd (omega arith)

pub place_within : (keys n : ℕ) → 0 < keys → (1 ≤ n % keys + 1) × (n % keys + 1 ≤ keys)
place_within keys n some_key = let lt : n % keys < keys = mod-lt n some_key in (omega arith, omega arith)

published_shows : (z : DirectorySizes) (t : State ℕ View) (h : List Entry) (sh : Shows z h t) (id : ℕ) (v : View) (place row : ℕ) (key : List ℕ) → get_elem? t.views id ≡ some v → (may : MayPublish z v place row key) → slice_index t.words place ≡ 0
    → Shows z (h ++ new_entry v place row key ∷ []) (record { words = set t.words place (row + 1); homes = t.homes; views = set t.views id (published_view v (h ++ new_entry v place row key ∷ [])) })
unfolding published_view published_holders new_entry
published_shows z t h sh id v place row key is may zero_there =
    let m = sh.seats id v is in
    let s : Spare = may.written.spare in
    let spare = m.spare s may.written.has in
    let me = m.desks v.from (stands_alone v spare.alone) in
    let e : Entry = new_entry v place row key in
    let h' : List Entry = h ++ e ∷ [] in
    let o = published_holders sh.holders v.from in
    let ws : List ℕ = set t.words place (row + 1) in
    let some_key : 0 < z.keys = let lt = may.reached.within in omega arith in
    let inside : (1 ≤ place) × (place ≤ z.keys) = subst (λ p. (1 ≤ p) × (p ≤ z.keys)) (sym may.reached.place_is) (place_within z.keys _ some_key) in
    let low = inside.0 in
    let high = inside.1 in
    let size = sh.size in
    let room : place < length t.words = omega arith in
    let other : (k : ℕ) → k ≢ place → slice_index ws k ≡ slice_index t.words k = λ k d. get_or-set_other t.words place k (row + 1) 0 d in
    let in_row : (r i : ℕ) → row_at z r + i ≢ place = λ r i q. omega arith in
    let empty : ¬ (IsNamed h place) = empty_place h place (slice_index t.words place) zero_there (sh.places place low high) in
    let taken : (k : ℕ) → k < may.reached.passed → IsNamed h (place_after z key k) = λ k lt. let g = may.reached.before k lt in (g.0, subst (λ q. Contains q (g.0)) (sym m.splits) (Contains-append_left v.seen m.rest (g.0) g.1), g.2) in
    let fresh = unnamed_key z h v.seen m.rest key may.reached.passed m.splits sh.sound (subst (λ p. ¬ (IsNamed h p)) may.reached.place_is empty) may.reached.before in
    let row_is = may.written.row_is in
    let drawn : row < sh.drawn = let lt = spare.is_drawn in omega arith in
    let most = drawn_most z h t sh in
    let has : sh.holders.has_spare v.from ≡ true = me.3 ∙ ap is_some may.written.has in
    let fewer = count_to_more o.has_spare sh.holders.has_spare z.desks v.from me.1 me.2 (put_here sh.holders.has_spare v.from false) has (λ j d. sym (put_else sh.holders.has_spare v.from false j d)) in
    let more = count_to_more (is_named h) (is_named h') z.keys place low high (is_named_none h place empty) (is_named_here h e place refl) (λ j d. is_named_else h e j (λ q. d (sym q))) in
    record {
      size = length-set t.words place (row + 1) ∙ sh.size;
      sound = sound_push z h e sh.sound (low, high, me.1, me.2) empty fresh may.is_key (omega arith) (may.reached.passed, may.reached.within, may.reached.place_is, taken);
      places = λ p l u. dite (ℕ_discrete p place)
          (λ q. inr (e, Contains-push h e, sym q, ap (slice_index ws) q ∙ get_or-set_same t.words place (row + 1) 0 room))
          (λ d. place_word_else h e p (slice_index ws p) (λ q. d (sym q)) (subst (IsPlaceWord h p) (sym (other p d)) (sh.places p l u)));
      rows = λ f c i lt. other (row_at z f.row + i) (in_row f.row i) ∙ ⊎_elim
          (λ (old : Contains h f). sh.rows f old i lt)
          (λ (new : e ≡ f). let written = may.written.written in ap (λ (q : Entry). slice_index t.words (row_at z q.row + i)) (sym new) ∙ (ap (λ r. slice_index t.words (row_at z r + i)) (sym row_is) ∙ (spare.written i (omega arith) ∙ (may.written.words i lt ∙ ap (λ (q : Entry). row_word q.key i) new))))
          (Contains-push_cases h e f c);
      drawn = sh.drawn;
      counter = other (counter_at z) (λ q. omega arith) ∙ sh.counter;
      used = λ f c. ⊎_elim (λ (old : Contains h f). sh.used f old) (λ (new : e ≡ f). subst (λ (q : Entry). q.row < sh.drawn) new drawn) (Contains-push_cases h e f c);
      holders = o;
      counts = let was = sh.counts in omega arith;
      seats = seats_on z h h' (e ∷ []) t.words ws sh.drawn sh.drawn sh.holders o id (published_view v h') t.views refl (omega arith)
          (λ k d. record {
            quiet = λ b q. own_other b e (λ x. d (sym q ∙ (ap sh.holders.seat_of (sym x) ∙ me.0)));
            desks = λ b q. (q, put_else sh.holders.has_spare v.from false b (λ x. d (sym q ∙ (ap sh.holders.seat_of x ∙ me.0))));
            keeps_row = λ r q l. q;
            other_rows = λ r q l x c same. d (sym q ∙ (ap sh.holders.keeper_of (sym same ∙ (ap (λ (y : Entry). y.row) (only e x c) ∙ sym row_is)) ∙ spare.kept));
            words = λ r q l i lt. other (row_at z r + i) (in_row r i);
          })
          sh.seats
          (record {
            sizes = m.sizes;
            rest = [];
            splits = sym (append-nil h');
            others = λ d q. refl;
            desks = λ d q. let a = m.desks d q in let one : d ≡ v.from = alone_is v d spare.alone q in (a.0, a.1, a.2, ap o.has_spare one ∙ put_here sh.holders.has_spare v.from false);
            told = tt;
            spare = λ y q. cc;
          });
    }
  where
    only : (e x : Entry) → Contains (e ∷ []) x → x ≡ e
    only e x c = ⊎_elim (λ (old : Contains [] x). let lt = old.1 in absurd (omega arith)) (λ (new : e ≡ x). sym new) (Contains-push_cases [] e x c)

-- what the table and the desk are after a publish that makes the place word x
abbrev pub Outcome : (z : DirectorySizes) (slots id place row : ℕ) (me : Me ℕ View) (t : State ℕ View) → ℕ → Type 0
Outcome z slots id place row me t x = (w : View) × (a : Act ℕ) × Valid t.homes me.1 a × Holds z (stepped t place x id me.1 w a) × publishes (step slots place 0 (row + 1) none) me (slice_index t.words place) (w, carried_after me.1 a)

publish_won : (z : DirectorySizes) (slots id place row : ℕ) (key : List ℕ) (me : Me ℕ View) → MayPublish z me.0 place row key → (t : State ℕ View) → Holds z t → get_elem? t.views id ≡ some me.0 → slice_index t.words place ≡ 0 → Outcome z slots id place row me t (row + 1)
unfolding published_view new_entry
publish_won z slots id place row key me may t hold is zero_there =
    let h = hold.0 in
    let sh = hold.1 in
    let v = me.0 in
    let s : Spare = may.written.spare in
    let m = sh.seats id v is in
    let alone = (m.spare s may.written.has).alone in
    let e : Entry = new_entry v place row key in
    let w : View = published_view v (h ++ e ∷ []) in
    let shown = published_shows z t h sh id v place row key is may zero_there in
    let sound = shown.sound in (
      w,
      keeps,
      tt,
      (h ++ e ∷ [], shown),
      λ y q. let told : Tried z place v (slice_index t.words place) w = record {
        won = λ _. (
          refl,
          record {
            entry = e;
            grows = record {
              sizes = refl;
              from = refl;
              to = refl;
              told = refl;
              more = m.rest ++ e ∷ [];
              seen = ap (λ x. x ++ e ∷ []) m.splits ∙ append_assoc v.seen m.rest (e ∷ []);
              own = λ d st. own_append d m.rest (e ∷ []) ∙ (ap (λ x. x ++ own_names d (e ∷ [])) (m.others d st) ∙ own_one d e (sym (alone_is v d alone st)));
              heard = heard_longer h (e ∷ []) v.told m.told;
              sound = λ b c. subst (λ x. IsSound x (h ++ e ∷ [])) (sym (m.sizes b c)) sound;
            };
            stands = Contains-push h e;
            place_is = refl;
            by = refl;
            key = may.is_key;
            row = λ b c i lt. let same : s ≡ b = cc in ap (λ (x : Spare). slice_index x.words i) (sym same) ∙ may.written.words i lt;
          },
        );
        lost = λ d. absurd (d zero_there);
      } in
          subst (λ x. Tried x place v (slice_index t.words place) w) (sym (m.sizes y q)) told,
    )

publish_lost : (z : DirectorySizes) (slots id place row : ℕ) (key : List ℕ) (me : Me ℕ View) → MayPublish z me.0 place row key → (t : State ℕ View) → Holds z t → get_elem? t.views id ≡ some me.0 → slice_index t.words place ≢ 0 → Outcome z slots id place row me t (slice_index t.words place)
publish_lost z slots id place row key me may t hold is other =
    let h = hold.0 in
    let sh = hold.1 in
    let v = me.0 in
    let w = seen_all v h in
    let m = sh.seats id v is in
    let some_key : 0 < z.keys = let lt = may.reached.within in omega arith in
    let inside : (1 ≤ place) × (place ≤ z.keys) = subst (λ p. (1 ≤ p) × (p ≤ z.keys)) (sym may.reached.place_is) (place_within z.keys _ some_key) in (
      w,
      keeps,
      tt,
      (h, subst (λ ws. Shows z h (record { words = ws; homes = t.homes; views = set t.views id w })) (sym (set-get_or t.words place 0)) (loaded z t h sh id v is)),
      λ y q. let told : Tried z place v (slice_index t.words place) w = record {
        won = λ e. absurd (other e);
        lost = λ _. (sees_all z h t.words sh.drawn sh.holders id v w m sh.sound refl refl refl refl refl, refl, sh.places place inside.0 inside.1);
      } in
          subst (λ x. Tried x place v (slice_index t.words place) w) (sym (m.sizes y q)) told,
    )

pub publish_allows : (z : DirectorySizes) (slots id place row : ℕ) (key : List ℕ) (me : Me ℕ View) → MayPublish z me.0 place row key
    → Allows (Holds z) slots id me place (λ n. either (eqb n 0) (row + 1) n) (publishes (step slots place 0 (row + 1) none) me)
publish_allows z slots id place row key me may t hold len is fits =
    exchanged (slice_index t.words place) 0 (row + 1) (Outcome z slots id place row me t) (publish_won z slots id place row key me may t hold is) (publish_lost z slots id place row key me may t hold is)

pub may_within : (z : DirectorySizes) (v : View) (place row : ℕ) (key : List ℕ) → MayPublish z v place row key → (1 ≤ place) × (place ≤ z.keys)
may_within z v place row key may = subst (λ p. (1 ≤ p) × (p ≤ z.keys)) (sym may.reached.place_is) (place_within z.keys _ (let lt = may.reached.within in omega arith))
