-- turns of a seat's own callers, which write one word, keep the rule: the one lemma that serves load, store and exchange
use Rattle.std.proofs.Common.{None, Option, ◌≤◌, ◌+◌, ◌≡◌, ◌≢◌, ℕ, ◌<◌, ◌⊎◌, inl, inr, ⊎_elim, eqb, eq-eqb, ne_eqb, List, [], ◌∷◌, ◌++◌, set, length, refl, sym, ap, ◌∙◌, subst, append_assoc, arith}
use Rattle.std.specs.Prelude.{slice_index, cond}
use mathlib.Core.Option.{none, some, some-injective}
use mathlib.Core.Logic.{dite}
use native.Mathlib.Decide.{ℕ_discrete}
use lib.ListN.{get_elem?}
use Rattle.std.proofs.lemmas.List.{append-nil, length-set, get_or-set_same, get_or-set_other}
use Rattle.atomic_table.specs.Table.{State, Me, Act, keeps, takes, gives, stepped, homes_after, carried_after, Valid, Allows}
use Rattle.atomic_table.proofs.Lists.{at_set, set_here, set_else}
use Rattle.sf_steps_laws.specs.declared.letter.Letter.{Letter}
use Rattle.sf_steps_laws.specs.declared.turn.Turn.{Turn}
use Rattle.sf_steps_laws.specs.World.{World, first_world}
use Rattle.sf_steps_laws.specs.Turns.{run}
use Rattle.sf_steps_laws.specs.Schedules.{IsCaller, IsSchedule, IsScheduleFrom}
use Rattle.sf_steps_laws.specs.Events.{adds}
use Rattle.sf_steps_laws.proofs.RightAnswers.{run_append, adds_append}
use Rattle.sf_steps_laws.proofs.Named.{spared_stage}
use Rattle.sf_group_rows.specs.declared.sizes.Sizes.{Sizes}
use Rattle.sf_group_rows.specs.Fitting.{FitOf}
use Rattle.sf_group_steps.specs.Cells.{Handle, none_of, take_one, give_one, cells_after, Home, Handling, MayHold, FitsCell, Lasts, IsCell}
use Rattle.sf_group_steps.proofs.Cells.{one_handles, handling_alone, no_cell, at_below, fits_on}
use Rattle.sf_group_steps.specs.declared.view.Claim.{Claim}
use Rattle.sf_group_steps.specs.declared.view.View.{View}
use Rattle.sf_group_steps.specs.Words.{Word, key, call, next, index, IsWord, words_in, same_word, code_at, AreLawful, Writes}
use Rattle.sf_group_steps.specs.View.{Has, AreApart, setting_of, AreBy, callers_of, all_of, world_of, history_of}
use Rattle.sf_steps_laws.specs.Named.{Spares}
use Rattle.sf_group_steps.specs.Shows.{IsClaim, AreClaims, IsView, Shows, Holds}
use Rattle.sf_group_steps.specs.Plays.{AreLater, Comes, Moves, Handles, MovesCell, view_with, Carries, ToldFound, ToldStored, Handled, ToldHandled, ToldHandledStore}
use Rattle.sf_steps_laws.proofs.Parts.{schedule_append}

-- words that are not one word have not one index
same_index : (z : Sizes) (x y : Word) → IsWord z x → IsWord z y → eqb (index z y) (index z x) ≡ same_word y x
same_index z (key k) (key j) p q = dite (ℕ_discrete j k) (λ e. eq-eqb (index z (key j)) (index z (key k)) (ap (λ n. index z (key n)) e) ∙ sym (eq-eqb j k e)) (λ n. ne_eqb (index z (key j)) (index z (key k)) (λ e. n (omega arith)) ∙ sym (ne_eqb j k n))
same_index z (key k) (call b) p q = let low = q.1 in ne_eqb (index z (call b)) (index z (key k)) (λ e. absurd (omega arith))
same_index z (key k) (next b) p q = let low = q.1 in ne_eqb (index z (next b)) (index z (key k)) (λ e. absurd (omega arith))
same_index z (call a) (key j) p q = let low = p.1 in ne_eqb (index z (key j)) (index z (call a)) (λ e. absurd (omega arith))
same_index z (call a) (call b) p q = dite (ℕ_discrete b a) (λ e. eq-eqb (index z (call b)) (index z (call a)) (ap (λ n. index z (call n)) e) ∙ sym (eq-eqb b a e)) (λ n. ne_eqb (index z (call b)) (index z (call a)) (λ e. n (omega arith)) ∙ sym (ne_eqb b a n))
same_index z (call a) (next b) p q = ne_eqb (index z (next b)) (index z (call a)) (λ e. absurd (omega arith))
same_index z (next a) (key j) p q = let low = p.1 in ne_eqb (index z (key j)) (index z (next a)) (λ e. absurd (omega arith))
same_index z (next a) (call b) p q = ne_eqb (index z (call b)) (index z (next a)) (λ e. absurd (omega arith))
same_index z (next a) (next b) p q = dite (ℕ_discrete b a) (λ e. eq-eqb (index z (next b)) (index z (next a)) (ap (λ n. index z (next n)) e) ∙ sym (eq-eqb b a e)) (λ n. ne_eqb (index z (next b)) (index z (next a)) (λ e. n (omega arith)) ∙ sym (ne_eqb b a n))

pub word_room : (z : Sizes) (x : Word) → IsWord z x → index z x < words_in z
word_room z (key k) p = let high = p.1 in omega arith
word_room z (call a) p = let high = p.1 in omega arith
word_room z (next a) p = let high = p.1 in omega arith

read_set : (ws : List ℕ) (i x j : ℕ) → i < length ws → slice_index (set ws i x) j ≡ cond (eqb j i) x (slice_index ws j)
read_set ws i x j room = dite (ℕ_discrete j i)
    (λ e. subst (λ n. slice_index (set ws i x) n ≡ cond (eqb n i) x (slice_index ws n)) (sym e) (get_or-set_same ws i x 0 room ∙ sym (ap (λ b. cond b x (slice_index ws i)) (eq-eqb i i refl))))
    (λ n. get_or-set_other ws i j x 0 n ∙ sym (ap (λ b. cond b x (slice_index ws j)) (ne_eqb j i n)))

pub has_append : (xs ys : List ℕ) (a : ℕ) → Has (xs ++ ys) a → Has xs a ⊎ Has ys a
has_append [] ys a g = inr g
has_append (x ∷ xs) ys a g = ⊎_elim (λ (e : x ≡ a). inl (inl e)) (λ (t : Has (xs ++ ys) a). ⊎_elim (λ (l : Has xs a). inl (inr l)) (λ (r : Has ys a). inr r) (has_append xs ys a t)) g

pub has_left : (xs ys : List ℕ) (a : ℕ) → Has xs a → Has (xs ++ ys) a
has_left [] ys a g = absurd g
has_left (x ∷ xs) ys a g = ⊎_elim (λ (e : x ≡ a). inl e) (λ (t : Has xs a). inr (has_left xs ys a t)) g

pub has_right : (xs ys : List ℕ) (a : ℕ) → Has ys a → Has (xs ++ ys) a
has_right [] ys a g = g
has_right (x ∷ xs) ys a g = inr (has_right xs ys a g)

module _ {V : Type 0} where
  pub spares_append : (xs ys : List (Turn V)) (a : ℕ) → Spares xs a → Spares ys a → Spares (xs ++ ys) a
  spares_append [] ys a p q = q
  spares_append (x ∷ xs) ys a p q = (p.0, spares_append xs ys a p.1 q)

  -- turns by these callers name nobody else
  by_spares : (who : List ℕ) (ts : List (Turn V)) (a : ℕ) → AreBy who ts → (Has who a → ⊥) → Spares ts a
  by_spares who [] a by other = tt
  by_spares who (t ∷ ts) a by other = ((λ g. other (by.0 a g)), by_spares who ts a by.1 other)

  -- all callers of a seat are its own
  claims_own : (z : Sizes) (s : List (Turn V)) (owner : ℕ → ℕ) (seat : ℕ) (cs : List (Claim V)) → AreClaims z s owner seat cs → (a : ℕ) → Has (callers_of cs) a → (owner a ≡ seat) × IsCaller (setting_of z) a
  claims_own z s owner seat [] m a g = absurd g
  claims_own z s owner seat (c ∷ cs) m a g = ⊎_elim (λ (l : Has c.callers a). m.0.owns a l) (λ (r : Has (callers_of cs) a). claims_own z s owner seat cs m.1 a r) (has_append c.callers (callers_of cs) a g)

  pub all_own : (z : Sizes) (s : List (Turn V)) (owner : ℕ → ℕ) (seat : ℕ) (v : View V) → IsView z s owner seat v → (a : ℕ) → Has (all_of v) a → (owner a ≡ seat) × IsCaller (setting_of z) a
  all_own z s owner seat v m a g = ⊎_elim (λ (l : Has v.known.callers a). m.known.owns a l) (λ (r : Has (callers_of v.told) a). claims_own z s owner seat v.told m.told a r) (has_append v.known.callers (callers_of v.told) a g)

  -- claims of another seat last
  claim_lasts : (z : Sizes) (s ts : List (Turn V)) (owner : ℕ → ℕ) (who : List ℕ) (seat : ℕ) (c : Claim V) → AreBy who ts → ((a : ℕ) → Has who a → owner a ≢ seat) → IsClaim z s owner seat c → IsClaim z (s ++ ts) owner seat c
  claim_lasts z s ts owner who seat c by apart m = record {
    rest = m.rest ++ ts;
    splits = ap (λ q. q ++ ts) m.splits ∙ append_assoc c.turns m.rest ts;
    owns = m.owns;
    others = λ a g. spares_append m.rest ts a (m.others a g) (by_spares who ts a by (λ h. apart a h (m.owns a g).0));
  }

  claims_last : (z : Sizes) (s ts : List (Turn V)) (owner : ℕ → ℕ) (who : List ℕ) (seat : ℕ) (cs : List (Claim V)) → AreBy who ts → ((a : ℕ) → Has who a → owner a ≢ seat) → AreClaims z s owner seat cs → AreClaims z (s ++ ts) owner seat cs
  claims_last z s ts owner who seat [] by apart m = tt
  claims_last z s ts owner who seat (c ∷ cs) by apart m = (claim_lasts z s ts owner who seat c by apart m.0, claims_last z s ts owner who seat cs by apart m.1)

  view_lasts : (z : Sizes) (s ts : List (Turn V)) (owner : ℕ → ℕ) (who : List ℕ) (seat : ℕ) (v : View V) → AreBy who ts → ((a : ℕ) → Has who a → owner a ≢ seat) → IsView z s owner seat v → IsView z (s ++ ts) owner seat v
  view_lasts z s ts owner who seat v by apart m = record {
    sizes = m.sizes;
    apart = m.apart;
    known = claim_lasts z s ts owner who seat v.known by apart m.known;
    told = claims_last z s ts owner who seat v.told by apart m.told;
    may = m.may;
  }

  -- the seat that steps knows all
  own_view : (z : Sizes) (s ts : List (Turn V)) (owner : ℕ → ℕ) (seat : ℕ) (v : View V) (out : List ℕ) → ((k : ℕ) → Has out k → MayHold (all_of v) (world_of z (s ++ ts)) k) → IsView z s owner seat v → IsView z (s ++ ts) owner seat (view_with v (s ++ ts) out)
  own_view z s ts owner seat v out may m = record {
    sizes = m.sizes;
    apart = subst AreApart (sym (append-nil (all_of v))) m.apart;
    known = record { rest = []; splits = sym (append-nil (s ++ ts)); owns = all_own z s owner seat v m; others = λ a g. tt };
    told = tt;
    may = may;
  }

  -- what the seat learns of what others did
  claims_later : (z : Sizes) (s : List (Turn V)) (owner : ℕ → ℕ) (seat : ℕ) (cs : List (Claim V)) → AreClaims z s owner seat cs → AreLater cs s
  claims_later z s owner seat [] m = tt
  claims_later z s owner seat (c ∷ cs) m = (record { between = m.0.rest; turns = m.0.splits; others = m.0.others }, claims_later z s owner seat cs m.1)

  seats_after : (P : ℕ → View V → Type 0) (views : List (View V)) (id : ℕ) (w : View V) → P id w → ((k : ℕ) (u : View V) → k ≢ id → get_elem? views k ≡ some u → P k u) → (k : ℕ) (u : View V) → get_elem? (set views id w) k ≡ some u → P k u
  seats_after P views id w mine others k u e = ⊎_elim
      (λ (p : (k ≡ id) × (w ≡ u)). subst (P k) p.1 (subst (λ i. P i w) (sym p.0) mine))
      (λ (p : (k ≢ id) × (get_elem? views k ≡ some u)). others k u p.0 p.1)
      (at_set views id k w u e)

module _ {V : Type 0} where
  comes : (fits : FitOf V) (z : Sizes) (t : State (Option (Letter V)) (View V)) (s : List (Turn V)) (sh : Shows fits z s t) (id : ℕ) (v : View V) → get_elem? t.views id ≡ some v → Comes z v s
  comes fits z t s sh id v at =
      let m = sh.seats id v at in
      record {
        schedule = sh.schedule;
        lawful = sh.lawful;
        numbered = λ a g. (all_own z s sh.owner id v m a g).1;
        later = record { between = m.known.rest; turns = m.known.splits; others = m.known.others };
        apart = m.apart;
        heard = claims_later z s sh.owner id v.told m.told;
      }

-- what the table does with the cell
abbrev pub act_of : {V : Type 0} → Handle → Option (Letter V) → Act (Option (Letter V))
act_of none_of y = keeps
act_of (take_one k) y = takes k y
act_of (give_one k) y = gives

-- turns of a seat, as the table is before them
module _ {V : Type 0} (fits : FitOf V) (lasts : Lasts fits) (z : Sizes) (t : State (Option (Letter V)) (View V)) (s ts : List (Turn V)) (sh : Shows fits z s t) (id : ℕ) (v : View V) (c : List (ℕ × Option (Letter V))) (at : get_elem? t.views id ≡ some v)
    (room : z.callers < length t.homes) (by : AreBy (all_of v) ts) (allowed : IsScheduleFrom (setting_of z) (history_of z s) (world_of z s) ts) where
  abbrev w₀ : World V
  w₀ = world_of z s

  abbrev w₁ : World V
  w₁ = run (world_of z s) ts

  there : world_of z (s ++ ts) ≡ w₁
  there = run_append (first_world z.callers z.first) s ts

  whole : IsSchedule (setting_of z) (s ++ ts)
  whole = schedule_append (setting_of z) s ts [] (first_world z.callers z.first) sh.schedule allowed

  abbrev Cell : List (Home V) → List ℕ → ℕ → Type 0
  Cell homes out k = IsCell fits (history_of z (s ++ ts)) (world_of z (s ++ ts)) homes (set t.views id (view_with v (s ++ ts) out)) k

  -- a cell that the step leaves alone
  stays : (out : List ℕ) (k : ℕ) (homes : List (Home V)) → k ≤ z.callers → get_elem? homes k ≡ get_elem? t.homes k → (Has v.cells k → ⊥) → w₁.cells k ≡ w₀.cells k → Cell homes out k
  stays out k homes le same mine cell = ⊎_elim
      (λ (p : (get_elem? t.homes k ≡ some (some (w₀.cells k))) × FitsCell fits (history_of z s) (w₀.cells k)).
      let is : (world_of z (s ++ ts)).cells k ≡ w₀.cells k = ap (λ (w : World V). w.cells k) there ∙ cell in
      inl (
        same ∙ (p.0 ∙ ap (λ (y : Option (Letter V)). some (some y)) (sym is)),
        subst (λ (y : Option (Letter V)). FitsCell fits (history_of z (s ++ ts)) y) (sym is)
            (subst (λ g. FitsCell fits g (w₀.cells k)) (sym (adds_append (first_world z.callers z.first) s ts)) (fits_on fits lasts (history_of z s) (adds w₀ ts) (w₀.cells k) p.1)),
      ))
      (λ (p : (get_elem? t.homes k ≡ some none) × ((seat : ℕ) × (u : View V) × (get_elem? t.views seat ≡ some u) × Has u.cells k)). dite (ℕ_discrete p.1.0 id)
      (λ e. let one : p.1.1 ≡ v = some-injective p.1.1 v (sym p.1.2 ∙ (ap (get_elem? t.views) e ∙ at)) in absurd (mine (subst (λ (u : View V). Has u.cells k) one p.1.3)))
      (λ d. inr (same ∙ p.0, (p.1.0, p.1.1, set_else t.views id p.1.0 (view_with v (s ++ ts) out) d ∙ p.1.2, p.1.3))))
      (sh.cells k le)

  cells_then : (h : Handle) (y : Option (Letter V)) → Handles fits z v c w₀ w₁ (history_of z (s ++ ts)) h → (k : ℕ) → k ≤ z.callers → Cell (homes_after t.homes c (act_of h y)) (cells_after h) k
  cells_then none_of y does k le = stays [] k t.homes le refl (no_cell v.cells k does.0) (ap (λ f. f k) does.1)
  cells_then (take_one m) y does k le = dite (ℕ_discrete k m)
      (λ e. inr (ap (get_elem? (set t.homes m none)) e ∙ set_here t.homes m none (let most = does.1 in omega (arith, most, room)), (id, view_with v (s ++ ts) (m ∷ []), set_here t.views id (view_with v (s ++ ts) (m ∷ [])) (at_below t.views id v at), inl (sym e))))
      (λ d. stays (m ∷ []) k (set t.homes m none) le (set_else t.homes m k none d) (no_cell v.cells k does.0) (does.3 k d))
  cells_then (give_one m) y does k le =
      let back : homes_after t.homes c gives ≡ set t.homes m (some (w₁.cells m)) = ap (λ q. homes_after t.homes q gives) does.1 in
      subst (λ hs. Cell hs [] k) (sym back) (dite (ℕ_discrete k m)
      (λ e. let is : (world_of z (s ++ ts)).cells k ≡ w₁.cells m = ap (λ (w : World V). w.cells k) there ∙ ap (λ j. w₁.cells j) e in
      inl (ap (get_elem? (set t.homes m (some (w₁.cells m)))) e ∙ (set_here t.homes m (some (w₁.cells m)) (omega (arith, e, le, room)) ∙ ap (λ (y : Option (Letter V)). some (some y)) (sym is)), subst (λ (y : Option (Letter V)). FitsCell fits (history_of z (s ++ ts)) y) (sym is) does.2))
      (λ d. stays [] k (set t.homes m (some (w₁.cells m))) le (set_else t.homes m k (some (w₁.cells m)) d) (λ g. ⊎_elim (λ (e : m ≡ k). d (sym e)) (λ (f : ⊥). f) (subst (λ l. Has l k) does.0 g)) (does.3 k d)))

  -- the cell that is taken out is at home, since nobody else has it for itself
  valid : (h : Handle) → Handles fits z v c w₀ w₁ (history_of z (s ++ ts)) h → (y : Option (Letter V)) × Valid t.homes c (act_of h y) × Carries fits c w₀ (history_of z s) h (carried_after c (act_of h y))
  valid none_of does = (None, tt, refl)
  valid (give_one m) does = (None, tt, ap (λ q. carried_after q (act_of {V = V} (give_one m) None)) does.1)
  valid (take_one m) does = ⊎_elim
      (λ (p : (get_elem? t.homes m ≡ some (some (w₀.cells m))) × FitsCell fits (history_of z s) (w₀.cells m)). (w₀.cells m, p.0, (refl, p.1)))
      (λ (p : (get_elem? t.homes m ≡ some none) × ((seat : ℕ) × (u : View V) × (get_elem? t.views seat ≡ some u) × Has u.cells m)).
      let u : View V = p.1.1 in
      let theirs = sh.seats p.1.0 u p.1.2 in
      let mine = sh.seats id v at in
      let may = theirs.may m p.1.3 in
      let b : ℕ = may.0 in
      absurd (dite (ℕ_discrete p.1.0 id)
      (λ e. let one : u ≡ v = some-injective u v (sym p.1.2 ∙ (ap (get_elem? t.views) e ∙ at)) in no_cell v.cells m does.0 (subst (λ (u : View V). Has u.cells m) one p.1.3))
      (λ d.
      let apart : (a : ℕ) → Has (all_of v) a → b ≢ a = λ a g q. d (sym (theirs.known.owns b may.1).0 ∙ (ap sh.owner q ∙ (all_own z s sh.owner id v mine a g).0)) in
      let rest : List (Turn V) = theirs.known.rest ++ ts in
      let long : s ++ ts ≡ u.known.turns ++ rest = ap (λ q. q ++ ts) theirs.known.splits ∙ append_assoc u.known.turns theirs.known.rest ts in
      let free : Spares rest b = spares_append theirs.known.rest ts b (theirs.known.others b may.1) (by_spares (all_of v) ts b by (λ g. apart b g refl)) in
      let kept : (world_of z (s ++ ts)).stages b ≡ (world_of z u.known.turns).stages b = ap (λ q. (world_of z q).stages b) long
      ∙ spared_stage (setting_of z) u.known.turns rest b (subst (λ q. IsSchedule (setting_of z) q) long whole) free (handling_alone ((world_of z u.known.turns).stages b) b m may.2) in
      let one : b ≡ does.2.0 = one_handles z (s ++ ts) b does.2.0 m whole (subst (λ p. Handling p b m) (sym kept) may.2) (subst (λ (w : World V). Handling (w.stages does.2.0) does.2.0 m) (sym there) does.2.2) in
      apart does.2.0 does.2.1 one)))
      (sh.cells m does.1)

  may_hold : (h : Handle) → Handles fits z v c w₀ w₁ (history_of z (s ++ ts)) h → (k : ℕ) → Has (cells_after h) k → MayHold (all_of v) (world_of z (s ++ ts)) k
  may_hold none_of does k g = absurd g
  may_hold (take_one m) does k g = ⊎_elim (λ (e : m ≡ k). subst (λ j. MayHold (all_of v) (world_of z (s ++ ts)) j) e (subst (λ (w : World V). MayHold (all_of v) w m) (sym there) does.2)) (λ (f : ⊥). absurd f) g
  may_hold (give_one m) does k g = absurd g

  -- the table after these turns
  pub longer : (x : Word) (n : ℕ) (h : Handle) (y : Option (Letter V)) → IsWord z x → Writes z.callers w₀ w₁ x n → Handles fits z v c w₀ w₁ (history_of z (s ++ ts)) h
      → Shows fits z (s ++ ts) (stepped t (index z x) n id c (view_with v (s ++ ts) (cells_after h)) (act_of h y))
  longer x n h y is writes does =
      let m = sh.seats id v at in
      let wide : index z x < length t.words = subst (λ k. index z x < k) (sym sh.size) (word_room z x is) in
      record {
        size = length-set t.words (index z x) n ∙ sh.size;
        schedule = whole;
        words = λ j one. read_set t.words (index z x) n (index z j) wide
            ∙ (ap (λ b. cond b n (slice_index t.words (index z j))) (same_index z x j is one)
            ∙ (ap (λ k. cond (same_word j x) n k) (sh.words j one)
            ∙ (sym (writes.codes j) ∙ ap (λ (u : World V). code_at u j) (sym there))));
        lawful = subst (λ (u : World V). AreLawful z.callers u) (sym there) (writes.lawful sh.lawful);
        owner = sh.owner;
        seats = seats_after (IsView z (s ++ ts) sh.owner) t.views id (view_with v (s ++ ts) (cells_after h)) (own_view z s ts sh.owner id v (cells_after h) (may_hold h does) m)
            (λ k u apart q. view_lasts z s ts sh.owner (all_of v) k u by (λ a g e. apart (sym e ∙ (all_own z s sh.owner id v m a g).0)) (sh.seats k u q));
        cells = cells_then h y does;
      }

module _ {V : Type 0} where
  -- what a seat may do that makes f of the word
  pub handled_allows : (fits : FitOf V) → Lasts fits → (z : Sizes) (slots id : ℕ) (me : Me (Option (Letter V)) (View V)) (x : Word) (f : ℕ → ℕ) (turns : ℕ → List (Turn V)) (handle : ℕ → Handle) → slots ≡ z.callers + 1 → IsWord z x → MovesCell fits z me x f turns handle
      → Allows (Holds fits z) slots id me (index z x) f (λ n w. ToldHandled fits x turns handle me n w)
  handled_allows fits lasts z slots id me x f turns handle size is moves t hold len at small =
      let n : ℕ = slice_index t.words (index z x) in
      let s : List (Turn V) = hold.0 in
      let sh : Shows fits z s t = hold.1 in
      let v : View V = me.0 in
      let c = comes fits z t s sh id v at in
      let m = moves s c n (sh.words x is) small in
      let room : z.callers < length t.homes = omega (arith, len, size) in
      let take = valid fits lasts z t s (turns n) sh id v me.1 at room m.0 m.1 (handle n) m.3 in (
        view_with v (s ++ turns n) (cells_after (handle n)),
        act_of (handle n) take.0,
        take.1,
        (s ++ turns n, longer fits lasts z t s (turns n) sh id v me.1 at room m.0 m.1 x (f n) (handle n) take.0 is m.2 m.3),
        λ y e. subst (λ (q : Sizes). Handled fits x turns handle q me n (view_with v (s ++ turns n) (cells_after (handle n)), carried_after me.1 (act_of (handle n) take.0))) (sym ((sh.seats id v at).sizes y e))
            (record { made = record { before = s; comes = c; whole = whole fits lasts z t s (turns n) sh id v me.1 at room m.0 m.1; view = refl }; found = sh.words x is; carries = take.2 }),
      )

  -- turns that touch no cell
  plain : (fits : FitOf V) (z : Sizes) (me : Me (Option (Letter V)) (View V)) (x : Word) (f : ℕ → ℕ) (turns : ℕ → List (Turn V)) → Moves z me.0 x f turns → MovesCell fits z me x f turns (λ _. none_of)
  plain fits z me x f turns moves s c n found small = let m = moves.1 s c n found small in (m.0, m.1, m.2, (moves.0, m.3))

  pub load_allows : (fits : FitOf V) → Lasts fits → (z : Sizes) (slots id : ℕ) (me : Me (Option (Letter V)) (View V)) (x : Word) (f : ℕ → ℕ) (turns : ℕ → List (Turn V)) → slots ≡ z.callers + 1 → IsWord z x → Moves z me.0 x f turns
      → Allows (Holds fits z) slots id me (index z x) f (λ n w. ToldFound x turns me n w)
  unfolding handled_allows
  load_allows fits lasts z slots id me x f turns size is moves t hold len at small =
      let k = handled_allows fits lasts z slots id me x f turns (λ _. none_of) size is (plain fits z me x f turns moves) t hold len at small in
      (k.0, keeps, tt, k.3, ((λ y e. let told = k.4 y e in (told.made, told.found)), refl))

  pub store_allows : (fits : FitOf V) → Lasts fits → (z : Sizes) (slots id : ℕ) (me : Me (Option (Letter V)) (View V)) (x : Word) (new : ℕ) (ts : List (Turn V)) → slots ≡ z.callers + 1 → IsWord z x → Moves z me.0 x (λ _. new) (λ _. ts)
      → Allows (Holds fits z) slots id me (index z x) (λ _. new) (λ n w. ToldStored ts me w)
  store_allows fits lasts z slots id me x new ts size is moves t hold len at small =
      let k = load_allows fits lasts z slots id me x (λ _. new) (λ _. ts) size is moves t hold len at small in
      (k.0, k.1, k.2, k.3, ((λ y e. (k.4.0 y e).0), k.4.1))

  pub handled_store_allows : (fits : FitOf V) → Lasts fits → (z : Sizes) (slots id : ℕ) (me : Me (Option (Letter V)) (View V)) (x : Word) (new : ℕ) (ts : List (Turn V)) (h : Handle) → slots ≡ z.callers + 1 → IsWord z x → MovesCell fits z me x (λ _. new) (λ _. ts) (λ _. h)
      → Allows (Holds fits z) slots id me (index z x) (λ _. new) (λ n w. ToldHandledStore fits ts h me w)
  handled_store_allows fits lasts z slots id me x new ts h size is moves t hold len at small =
      let k = handled_allows fits lasts z slots id me x (λ _. new) (λ _. ts) (λ _. h) size is moves t hold len at small in
      (k.0, k.1, k.2, k.3, λ y e. let told = k.4 y e in (told.made, told.carries))
