-- The table at its start, and seats that are split and joined.
use Rattle.std.proofs.Common.{◌≡◌, ◌≢◌, ℕ, zero, suc, ◌+◌, ◌<◌, inl, ⊎_elim, Bool, false, cond, List, [], ◌∷◌, replicate, length, set, refl, sym, ap, ◌∙◌, subst, None, arith}
use mathlib.Core.Option.{some, some-injective, some-ne-none}
use lib.ListN.{get_elem?}
use Rattle.std.specs.Prelude.{slice_index, is_some}
use Rattle.std.specs.List.{Contains}
use Rattle.std.proofs.lemmas.List.{append-nil, length-replicate, get_or-replicate}
use Rattle.atomic_table.specs.Table.{opening, Splits, Joins}
use Rattle.atomic_table.proofs.Lists.{at_set, set_else}
use Rattle.sf_dir.specs.declared.rule.DirectorySizes.{DirectorySizes}
use Rattle.sf_dir.specs.declared.rule.Entry.{Entry}
use Rattle.sf_dir.specs.declared.rule.View.{View}
use Rattle.sf_dir.specs.Rule.{first_view, without_first, first_alone, note_of, both_of, blank, is_named, count_to, Holders, IsView, Holds}
use Rattle.sf_dir.specs.WordIndex.{counter_at, word_total}
use Rattle.sf_dir.proofs.Keeps.{seats_on}
use Rattle.sf_lists.specs.Functions.{put}
use Rattle.sf_lists.proofs.Functions.{put_here, put_else}
use Rattle.sf_lists.proofs.Ends.{at_end}

contains_none : {A : Type 0} (x : A) → Contains [] x → ⊥
contains_none x c = let lt = c.1 in omega arith

count_none : (f : ℕ → Bool) (n : ℕ) → ((i : ℕ) → f i ≡ false) → count_to f n ≡ 0
count_none f zero none = refl
count_none f (suc n) none = ap (λ b. cond {A = ℕ} b 1 0 + count_to f n) (none (suc n)) ∙ (let rest = count_none f n none in omega arith)

-- no names: all words are 0
pub opens : (z : DirectorySizes) (words : List ℕ) → words ≡ replicate (word_total z) 0 → Holds z (opening {S = ℕ} words [] (first_view z))
opens z words zeros = (
  [],
  record {
    size = ap length zeros ∙ length-replicate (word_total z) 0;
    sound = record {
      names = record { within = λ k d lt. absurd (omega arith); distinct_places = λ i j d l lt. absurd (omega arith); distinct_keys = λ i j d l lt. absurd (omega arith) };
      keys = λ e c. absurd (contains_none e c);
      walks = λ e c. absurd (contains_none e c);
    };
    places = λ p l u. inl (zero_at p (omega arith), λ n. contains_none (n.0) n.1);
    rows = λ e c i lt. absurd (contains_none e c);
    drawn = 0;
    counter = zero_at (counter_at z) (omega arith);
    used = λ e c. absurd (contains_none e c);
    holders = nobody;
    counts = sym (ap (λ n. n + count_to (λ _. false) z.desks) (count_none (is_named []) z.keys (λ i. refl)) ∙ ap (λ n. 0 + n) (count_none (λ _. false) z.desks (λ i. refl)));
    seats = seats;
  },
)
  where
    nobody : Holders
    nobody = record { seat_of = λ _. 0; keeper_of = λ _. 0; has_spare = λ _. false }

    zero_at : (i : ℕ) → i < word_total z → slice_index words i ≡ 0
    zero_at i lt = ap (λ ws. slice_index ws i) zeros ∙ get_or-replicate (word_total z) i 0 0 lt

    seats : (seat : ℕ) (v : View) → get_elem? (first_view z ∷ []) seat ≡ some v → IsView z [] words 0 (record { seat_of = λ _. 0; keeper_of = λ _. 0; has_spare = λ _. false }) seat v
    seats zero v e = subst (IsView z [] words 0 (record { seat_of = λ _. 0; keeper_of = λ _. 0; has_spare = λ _. false }) 0) (some-injective (first_view z) v e) (record {
      sizes = λ y q. cc;
      rest = [];
      splits = refl;
      others = λ d s. refl;
      desks = λ d s. let low = s.0 in let high = s.1 in (refl, omega arith, omega arith, refl);
      told = tt;
      spare = λ s q. cc;
    })
    seats (suc k) v e = absurd (some-ne-none v (sym e))

at_same : {A : Type 0} (l : List A) (i j : ℕ) (a b : A) → get_elem? l i ≡ some a → get_elem? (set l i a) j ≡ some b → get_elem? l j ≡ some b
at_same l i j a b is e = ⊎_elim (λ (p : (j ≡ i) × (a ≡ b)). ap (get_elem? l) p.0 ∙ (is ∙ ap some p.1)) (λ (p : (j ≢ i) × (get_elem? l j ≡ some b)). p.1) (at_set l i j a b e)

-- a seat that stands for nobody, and has seen a beginning of the names
note_view : (z : DirectorySizes) (h : List Entry) (ws : List ℕ) (drawn : ℕ) (o : Holders) (k seat : ℕ) (v : View) → IsView z h ws drawn o seat v → IsView z h ws drawn o k (note_of v)
note_view z h ws drawn o k seat v m = record {
  sizes = m.sizes;
  rest = m.rest;
  splits = m.splits;
  others = λ d s. let lt = s.1 in absurd (omega arith);
  desks = λ d s. let lt = s.1 in absurd (omega arith);
  told = tt;
  spare = λ s q. cc;
}

pub shows_split : (z : DirectorySizes) (id : ℕ) (v : View) → Splits {S = ℕ} (Holds z) id v v (note_of v)
shows_split z id v t hold is =
    let h = hold.0 in
    let sh = hold.1 in (
      h,
      record {
        size = sh.size;
        sound = sh.sound;
        places = sh.places;
        rows = sh.rows;
        drawn = sh.drawn;
        counter = sh.counter;
        used = sh.used;
        holders = sh.holders;
        counts = sh.counts;
        seats = λ k u e. ⊎_elim
            (λ (p : get_elem? (set t.views id v) k ≡ some u). sh.seats k u (at_same t.views id k v u is p))
            (λ (p : (k ≡ length (set t.views id v)) × (note_of v ≡ u)). subst (IsView z h t.words sh.drawn sh.holders k) p.1 (note_view z h t.words sh.drawn sh.holders k id v (sh.seats id v is)))
            (at_end (set t.views id v) (note_of v) u k e);
      },
    )

-- the first desk of a seat that deals them out
pub deals_split : (z : DirectorySizes) (id : ℕ) (v : View) → v.from < v.to → v.spare ≡ None → Splits {S = ℕ} (Holds z) id v (without_first v) (first_alone v)
deals_split z id v some_desk free t hold is =
    let h = hold.0 in
    let sh = hold.1 in
    let m = sh.seats id v is in
    let me = m.desks v.from (omega arith, some_desk) in
    let new : ℕ = length (set t.views id (without_first v)) in
    let o : Holders = record { seat_of = put sh.holders.seat_of v.from new; keeper_of = sh.holders.keeper_of; has_spare = sh.holders.has_spare } in
    let none : is_some v.spare ≡ false = ap is_some free in
    let left : IsView z h t.words sh.drawn o id (without_first v) = record {
      sizes = m.sizes;
      rest = m.rest;
      splits = m.splits;
      others = λ d s. let low = s.0 in let high = s.1 in m.others d (omega arith, high);
      desks = λ d s. let low = s.0 in let high = s.1 in let a = m.desks d (omega arith, high) in (put_else sh.holders.seat_of v.from new d (λ q. omega arith) ∙ a.0, a.1, a.2, a.3 ∙ none);
      told = m.told;
      spare = λ s q. cc;
    } in
    let right : IsView z h t.words sh.drawn o new (first_alone v) = record {
      sizes = m.sizes;
      rest = m.rest;
      splits = m.splits;
      others = λ d s. let low = s.0 in let high = s.1 in m.others d (low, omega arith);
      desks = λ d s. let low = s.0 in let high = s.1 in let e : d ≡ v.from = omega arith in let a = m.desks d (low, omega arith) in (ap (put sh.holders.seat_of v.from new) e ∙ put_here sh.holders.seat_of v.from new, a.1, a.2, a.3 ∙ none);
      told = tt;
      spare = λ s q. cc;
    } in (
      h,
      record {
        size = sh.size;
        sound = sh.sound;
        places = sh.places;
        rows = sh.rows;
        drawn = sh.drawn;
        counter = sh.counter;
        used = sh.used;
        holders = o;
        counts = sh.counts;
        seats = λ k u e. ⊎_elim
            (λ (p : get_elem? (set t.views id (without_first v)) k ≡ some u).
            seats_on z h h [] t.words t.words sh.drawn sh.drawn sh.holders o id (without_first v) t.views (sym (append-nil h)) (omega arith)
            (λ j d. record {
              quiet = λ b q. refl;
              desks = λ b q. (put_else sh.holders.seat_of v.from new b (λ x. d (sym q ∙ (ap sh.holders.seat_of x ∙ me.0))) ∙ q, refl);
              keeps_row = λ r q l. q;
              other_rows = λ r q l x c. absurd (contains_none x c);
              words = λ r q l i lt. refl;
            })
            sh.seats left k u p)
            (λ (p : (k ≡ new) × (first_alone v ≡ u)). subst (IsView z h t.words sh.drawn o k) p.1 (subst (λ n. IsView z h t.words sh.drawn o n (first_alone v)) (sym p.0) right))
            (at_end (set t.views id (without_first v)) (first_alone v) u k e);
      },
    )

-- a seat that takes in another, and is told what that had seen
pub shows_join : (z : DirectorySizes) (id other : ℕ) (v w : View) → Joins {S = ℕ} (Holds z) id v other w (both_of v w) blank
shows_join z id other v w t hold is apart there =
    let h = hold.0 in
    let sh = hold.1 in
    let m = sh.seats id v is in
    let n = sh.seats other w (sym (set_else t.views id other (both_of v w) apart) ∙ there) in
    let both : IsView z h t.words sh.drawn sh.holders id (both_of v w) = record {
      sizes = m.sizes;
      rest = m.rest;
      splits = m.splits;
      others = m.others;
      desks = m.desks;
      told = ((n.rest, n.splits), m.told);
      spare = λ s q. let a = m.spare s q in record { is_drawn = a.is_drawn; kept = a.kept; alone = a.alone; unnamed = a.unnamed; short = a.short; written = a.written };
    } in
    let spent : (k : ℕ) → IsView z h t.words sh.drawn sh.holders k blank = λ k. record {
      sizes = λ y q. cc;
      rest = h;
      splits = refl;
      others = λ d s. let lt = s.1 in absurd (omega arith);
      desks = λ d s. let lt = s.1 in absurd (omega arith);
      told = tt;
      spare = λ s q. cc;
    } in (
      h,
      record {
        size = sh.size;
        sound = sh.sound;
        places = sh.places;
        rows = sh.rows;
        drawn = sh.drawn;
        counter = sh.counter;
        used = sh.used;
        holders = sh.holders;
        counts = sh.counts;
        seats = λ k u e. ⊎_elim
            (λ (p : (k ≡ other) × (blank ≡ u)). subst (IsView z h t.words sh.drawn sh.holders k) p.1 (spent k))
            (λ (p : (k ≢ other) × (get_elem? (set t.views id (both_of v w)) k ≡ some u)). ⊎_elim
            (λ (q : (k ≡ id) × (both_of v w ≡ u)). subst (IsView z h t.words sh.drawn sh.holders k) q.1 (subst (λ i. IsView z h t.words sh.drawn sh.holders i (both_of v w)) (sym q.0) both))
            (λ (q : (k ≢ id) × (get_elem? t.views k ≡ some u)). sh.seats k u q.1)
            (at_set t.views id k (both_of v w) u p.1))
            (at_set (set t.views id (both_of v w)) other k blank u e);
      },
    )
