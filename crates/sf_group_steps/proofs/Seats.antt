-- seats that are cut in two, that take one another in, and the first
use Rattle.std.proofs.Common.{◌≡◌, ◌≢◌, ℕ, zero, suc, ◌+◌, ◌<◌, ◌≤◌, ◌⊎◌, inl, inr, ⊎_elim, eqb, eq-eqb, ne_eqb, List, [], ◌∷◌, ◌++◌, length, set, refl, sym, ap, ◌∙◌, subst, append_assoc, Option, None, Some, arith, map}
use mathlib.Core.Option.{some, some-injective, some-ne-none}
use mathlib.Core.Logic.{dite}
use native.Mathlib.Decide.{ℕ_discrete}
use lib.ListN.{get_elem?}
use Rattle.std.specs.Prelude.{cond, replicate, slice_index}
use Rattle.std.specs.List.{range_with_len}
use Rattle.std.proofs.lemmas.List.{append-nil, length-replicate, get_or-replicate}
use Rattle.atomic_table.specs.Table.{opening, Splits, Joins}
use Rattle.atomic_table.proofs.Lists.{at_set, set_here, set_else, at_longer}
use Rattle.sf_history.specs.declared.event.Event.{Event}
use Rattle.sf_steps_laws.specs.declared.letter.Letter.{Letter}
use Rattle.sf_steps_laws.specs.declared.turn.Turn.{Turn}
use Rattle.sf_steps_laws.specs.World.{World, first_world}
use Rattle.sf_lists.specs.Functions.{put}
use Rattle.sf_lists.proofs.Functions.{put_here, put_else}
use Rattle.sf_group_rows.specs.declared.sizes.Sizes.{Sizes}
use Rattle.sf_group_rows.specs.Fitting.{FitOf}
use Rattle.sf_group_steps.specs.Cells.{Home, IsCell}
use Rattle.sf_group_steps.proofs.Cells.{no_cell, at_below}
use Rattle.sf_group_steps.specs.declared.view.Claim.{Claim}
use Rattle.sf_group_steps.specs.declared.view.View.{View}
use Rattle.sf_group_steps.specs.Words.{Word, key, call, next, index, IsWord, words_in, code_at}
use Rattle.sf_group_steps.specs.View.{Has, AreApart, claim, callers_of, all_of, first_view, without_first, first_alone, note_of, both_of, blank, world_of, history_of}
use Rattle.sf_group_steps.specs.Shows.{IsClaim, AreClaims, IsView, Shows, Holds}
use Rattle.sf_group_steps.proofs.Keeps.{word_room, has_append, has_left, has_right, all_own}

at_end : {A : Type 0} (l : List A) (a b : A) (j : ℕ) → get_elem? (l ++ a ∷ []) j ≡ some b → (get_elem? l j ≡ some b) ⊎ ((j ≡ length l) × (a ≡ b))
at_end [] a b zero e = inr (refl, some-injective a b e)
at_end [] a b (suc j) e = absurd (some-ne-none b (sym e))
at_end (x ∷ xs) a b zero e = inl e
at_end (x ∷ xs) a b (suc j) e = ⊎_elim (λ (p : get_elem? xs j ≡ some b). inl p) (λ (p : (j ≡ length xs) × (a ≡ b)). inr (ap suc p.0, p.1)) (at_end xs a b j e)

apart_append : (xs ys : List ℕ) → AreApart xs → AreApart ys → ((a : ℕ) → Has xs a → Has ys a → ⊥) → AreApart (xs ++ ys)
apart_append [] ys p q none = q
apart_append (x ∷ xs) ys p q none = (
  (λ g. ⊎_elim (λ (l : Has xs x). p.0 l) (λ (r : Has ys x). none x (inl refl) r) (has_append xs ys x g)),
  apart_append xs ys p.1 q (λ a l r. none a (inr l) r),
)

range_has : (a n x : ℕ) → Has (range_with_len a n) x → (a ≤ x) × (x < a + n)
range_has a zero x g = absurd g
range_has a (suc n) x g = ⊎_elim (λ (e : a ≡ x). (omega arith, omega arith)) (λ (t : Has (range_with_len (a + 1) n) x). let r = range_has (a + 1) n x t in let low = r.0 in let high = r.1 in (omega arith, omega arith)) g

range_apart : (a n : ℕ) → AreApart (range_with_len a n)
range_apart a zero = tt
range_apart a (suc n) = ((λ g. let r = range_has (a + 1) n a g in let low = r.0 in omega arith), range_apart (a + 1) n)

-- the number in each word of the world in which nothing has happened
nothing : (V : Type 0) (z : Sizes) (x : Word) → ◌≡◌ {A = ℕ} 0 (code_at (first_world {V = V} z.callers z.first) x)
nothing V z (key k) = refl
nothing V z (call a) = refl
nothing V z (next a) = refl

zero_words : (z : Sizes) (x : Word) → IsWord z x → slice_index (replicate (words_in z) 0) (index z x) ≡ 0
zero_words z x is = get_or-replicate (words_in z) (index z x) 0 0 (word_room z x is)

-- all cells are at home and empty
vacant : {V : Type 0} (n k : ℕ) → k < n → get_elem? (map some (replicate {A = Option (Letter V)} n None)) k ≡ some (some None)
vacant zero k lt = absurd (omega arith)
vacant (suc n) zero lt = refl
vacant (suc n) (suc k) lt = vacant n k (omega arith)

module _ {V : Type 0} where
  -- a list with one seat changed and one more at its end
  cut_seats : (P : ℕ → View V → Type 0) (views : List (View V)) (id : ℕ) (left right : View V) → P id left → P (length (set views id left)) right → ((k : ℕ) (u : View V) → k ≢ id → get_elem? views k ≡ some u → P k u)
      → (k : ℕ) (u : View V) → get_elem? (set views id left ++ right ∷ []) k ≡ some u → P k u
  cut_seats P views id left right mine new others k u e = ⊎_elim
      (λ (p : get_elem? (set views id left) k ≡ some u). ⊎_elim
      (λ (q : (k ≡ id) × (left ≡ u)). subst (P k) q.1 (subst (λ i. P i left) (sym q.0) mine))
      (λ (q : (k ≢ id) × (get_elem? views k ≡ some u)). others k u q.0 q.1)
      (at_set views id k left u p))
      (λ (p : (k ≡ length (set views id left)) × (right ≡ u)). subst (P k) p.1 (subst (λ i. P i right) (sym p.0) new))
      (at_end (set views id left) right u k e)

  -- the owners change for callers of one seat alone
  claim_moves : (z : Sizes) (s : List (Turn V)) (owner new : ℕ → ℕ) (seat to : ℕ) (c : Claim V) → ((a : ℕ) → Has c.callers a → owner a ≡ seat → new a ≡ to) → IsClaim z s owner seat c → IsClaim z s new to c
  claim_moves z s owner new seat to c moves m = record { rest = m.rest; splits = m.splits; owns = λ a g. let o = m.owns a g in (moves a g o.0, o.1); others = m.others }

  claims_move : (z : Sizes) (s : List (Turn V)) (owner new : ℕ → ℕ) (seat to : ℕ) (cs : List (Claim V)) → ((a : ℕ) → Has (callers_of cs) a → owner a ≡ seat → new a ≡ to) → AreClaims z s owner seat cs → AreClaims z s new to cs
  claims_move z s owner new seat to [] moves m = tt
  claims_move z s owner new seat to (c ∷ cs) moves m = (
    claim_moves z s owner new seat to c (λ a g. moves a (has_left c.callers (callers_of cs) a g)) m.0,
    claims_move z s owner new seat to cs (λ a g. moves a (has_right c.callers (callers_of cs) a g)) m.1,
  )

  view_moves : (z : Sizes) (s : List (Turn V)) (owner new : ℕ → ℕ) (seat to : ℕ) (v : View V) → ((a : ℕ) → Has (all_of v) a → owner a ≡ seat → new a ≡ to) → IsView z s owner seat v → IsView z s new to v
  view_moves z s owner new seat to v moves m = record {
    sizes = m.sizes;
    apart = m.apart;
    known = claim_moves z s owner new seat to v.known (λ a g. moves a (has_left v.known.callers (callers_of v.told) a g)) m.known;
    told = claims_move z s owner new seat to v.told (λ a g. moves a (has_right v.known.callers (callers_of v.told) a g)) m.told;
    may = m.may;
  }

  claims_append : (z : Sizes) (s : List (Turn V)) (owner : ℕ → ℕ) (seat : ℕ) (cs ds : List (Claim V)) → AreClaims z s owner seat cs → AreClaims z s owner seat ds → AreClaims z s owner seat (cs ++ ds)
  claims_append z s owner seat [] ds p q = q
  claims_append z s owner seat (c ∷ cs) ds p q = (p.0, claims_append z s owner seat cs ds p.1 q)

  callers_append : (cs ds : List (Claim V)) → callers_of (cs ++ ds) ≡ callers_of cs ++ callers_of ds
  callers_append [] ds = refl
  callers_append (c ∷ cs) ds = ap (λ q. c.callers ++ q) (callers_append cs ds) ∙ sym (append_assoc c.callers (callers_of cs) (callers_of ds))

  both_all : (v w : View V) → all_of (both_of v w) ≡ all_of v ++ all_of w
  both_all v w = ap (λ q. v.known.callers ++ q) (callers_append v.told (w.known ∷ w.told)) ∙ sym (append_assoc v.known.callers (callers_of v.told) (callers_of (w.known ∷ w.told)))

  spent_view : (z : Sizes) (s : List (Turn V)) (owner : ℕ → ℕ) (k : ℕ) → IsView z s owner k (blank {V = V})
  spent_view z s owner k = record { sizes = λ y e. cc; apart = tt; known = record { rest = s; splits = refl; owns = λ a g. absurd g; others = λ a g. absurd g }; told = tt; may = λ k g. absurd g }

  -- a list with one seat changed and another spent
  joined_seats : (P : ℕ → View V → Type 0) (views : List (View V)) (id other : ℕ) (both : View V) → P other blank → P id both → ((k : ℕ) (u : View V) → k ≢ other → get_elem? views k ≡ some u → P k u)
      → (k : ℕ) (u : View V) → get_elem? (set (set views id both) other blank) k ≡ some u → P k u
  joined_seats P views id other both spent mine others k u e = ⊎_elim
      (λ (p : (k ≡ other) × (blank ≡ u)). subst (P k) p.1 (subst (λ i. P i blank) (sym p.0) spent))
      (λ (p : (k ≢ other) × (get_elem? (set views id both) k ≡ some u)). ⊎_elim
      (λ (q : (k ≡ id) × (both ≡ u)). subst (P k) q.1 (subst (λ i. P i both) (sym q.0) mine))
      (λ (q : (k ≢ id) × (get_elem? views k ≡ some u)). others k u p.0 q.1)
      (at_set views id k both u p.1))
      (at_set (set views id both) other k blank u e)

  abbrev pub view_of : Option Sizes → List ℕ → List (Turn V) → List (Claim V) → View V
  view_of o who q cs = record { sizes = o; known = claim who q; told = cs; cells = [] }

-- cells that a seat has out stay out with it
module _ {V : Type 0} where
  cells_go : (fits : FitOf V) (h : List (Event ℕ V)) (w : World V) (homes : List (Home V)) (views later : List (View V)) (k : ℕ)
      → ((seat : ℕ) (v : View V) → get_elem? views seat ≡ some v → Has v.cells k → (to : ℕ) × (u : View V) × (get_elem? later to ≡ some u) × Has u.cells k)
      → IsCell fits h w homes views k → IsCell fits h w homes later k
  cells_go fits h w homes views later k moves (inl p) = inl p
  cells_go fits h w homes views later k moves (inr p) = inr (p.0, moves p.1.0 p.1.1 p.1.2 p.1.3)

  -- a list with one seat changed, which keeps its cells, and one more
  cut_cells : (views : List (View V)) (id : ℕ) (v left right : View V) → get_elem? views id ≡ some v → left.cells ≡ v.cells → (k seat : ℕ) (u : View V) → get_elem? views seat ≡ some u → Has u.cells k
      → (to : ℕ) × (y : View V) × (get_elem? (set views id left ++ right ∷ []) to ≡ some y) × Has y.cells k
  cut_cells views id v left right at same k seat u there has = dite (ℕ_discrete seat id)
      (λ e. let is : u ≡ v = some-injective u v (sym there ∙ (ap (get_elem? views) e ∙ at)) in
      (id, left, at_longer (set views id left) (right ∷ []) id left (set_here views id left (at_below views id v at)), subst (λ l. Has l k) (ap (λ (y : View V). y.cells) is ∙ sym same) has))
      (λ d. (seat, u, at_longer (set views id left) (right ∷ []) seat u (set_else views id seat left d ∙ there), has))

  -- a list with one seat changed, which keeps its cells, and another one that had none
  joined_cells : (views : List (View V)) (id other : ℕ) (v w both : View V) → other ≢ id → get_elem? views id ≡ some v → get_elem? views other ≡ some w → w.cells ≡ [] → both.cells ≡ v.cells
      → (k seat : ℕ) (u : View V) → get_elem? views seat ≡ some u → Has u.cells k → (to : ℕ) × (y : View V) × (get_elem? (set (set views id both) other blank) to ≡ some y) × Has y.cells k
  joined_cells views id other v w both apart at gone none same k seat u there has = dite (ℕ_discrete seat other)
      (λ e. let is : u ≡ w = some-injective u w (sym there ∙ (ap (get_elem? views) e ∙ gone)) in absurd (no_cell w.cells k none (subst (λ (y : View V). Has y.cells k) is has)))
      (λ n. dite (ℕ_discrete seat id)
      (λ e. let is : u ≡ v = some-injective u v (sym there ∙ (ap (get_elem? views) e ∙ at)) in
      (id, both, set_else (set views id both) other id blank (λ q. apart (sym q)) ∙ set_here views id both (at_below views id v at), subst (λ l. Has l k) (ap (λ (y : View V). y.cells) is ∙ sym same) has))
      (λ d. (seat, u, set_else (set views id both) other seat blank n ∙ (set_else views id seat both d ∙ there), has)))

module _ {V : Type 0} where
  -- a seat that stands for nobody, and knows what another does
  pub tells_split : (fits : FitOf V) (z : Sizes) (id : ℕ) (v : View V) → Splits (Holds fits z) id v v (note_of v)
  tells_split fits z id v t hold at =
      let s : List (Turn V) = hold.0 in
      let sh : Shows fits z s t = hold.1 in
      let m = sh.seats id v at in (
        s,
        record {
          size = sh.size;
          schedule = sh.schedule;
          words = sh.words;
          lawful = sh.lawful;
          owner = sh.owner;
          seats = cut_seats (IsView z s sh.owner) t.views id v (note_of v) m
              (record { sizes = m.sizes; apart = tt; known = record { rest = m.known.rest; splits = m.known.splits; owns = λ a g. absurd g; others = λ a g. absurd g }; told = tt; may = λ k g. absurd g })
              (λ k u n q. sh.seats k u q);
          cells = λ k le. cells_go fits (history_of z s) (world_of z s) t.homes t.views (set t.views id v ++ note_of v ∷ []) k (cut_cells t.views id v v (note_of v) at refl k) (sh.cells k le);
        },
      )

  pub tells_join : (fits : FitOf V) (z : Sizes) (id other : ℕ) (v w : View V) → w.cells ≡ [] → Joins (Holds fits z) id v other w (both_of v w) blank
  tells_join fits z id other v w none t hold at apart there =
      let s : List (Turn V) = hold.0 in
      let sh : Shows fits z s t = hold.1 in
      let mine = sh.seats id v at in
      let theirs = sh.seats other w (sym (set_else t.views id other (both_of v w) apart) ∙ there) in
      let owner : ℕ → ℕ = λ b. cond (eqb (sh.owner b) other) id (sh.owner b) in
      let keeps : (k b : ℕ) → k ≢ other → sh.owner b ≡ k → owner b ≡ k = λ k b n q. ap (λ c. cond c id (sh.owner b)) (ne_eqb (sh.owner b) other (λ x. n (sym q ∙ x))) ∙ q in
      let moves : (b : ℕ) → sh.owner b ≡ other → owner b ≡ id = λ b q. ap (λ c. cond c id (sh.owner b)) (eq-eqb (sh.owner b) other q) in
      let here = view_moves z s sh.owner owner id id v (λ b g q. keeps id b (λ x. apart (sym x)) q) mine in
      let brought = view_moves z s sh.owner owner other id w (λ b g q. moves b q) theirs in
      let both : IsView z s owner id (both_of v w) = record {
        sizes = here.sizes;
        apart = subst AreApart (sym (both_all v w)) (apart_append (all_of v) (all_of w) mine.apart theirs.apart
            (λ a l r. apart (sym (all_own z s sh.owner other w theirs a r).0 ∙ (all_own z s sh.owner id v mine a l).0)));
        known = here.known;
        told = claims_append z s owner id v.told (w.known ∷ w.told) here.told (brought.known, brought.told);
        may = mine.may;
      } in (
        s,
        record {
          size = sh.size;
          schedule = sh.schedule;
          words = sh.words;
          lawful = sh.lawful;
          owner = owner;
          seats = joined_seats (IsView z s owner) t.views id other (both_of v w) (spent_view z s owner other) both (λ k u n q. view_moves z s sh.owner owner k k u (λ b g o. keeps k b n o) (sh.seats k u q));
          cells = λ k le. cells_go fits (history_of z s) (world_of z s) t.homes t.views (set (set t.views id (both_of v w)) other blank) k
              (joined_cells t.views id other v w (both_of v w) apart at (sym (set_else t.views id other (both_of v w) apart) ∙ there) none refl k) (sh.cells k le);
        },
      )

  -- the first caller of a seat gets one of its own
  deals_at : (fits : FitOf V) (z : Sizes) (id : ℕ) (o : Option Sizes) (who : List ℕ) (q : List (Turn V)) (cs : List (Claim V)) → Splits (Holds fits z) id (view_of o who q cs) (without_first (view_of o who q cs)) (first_alone (view_of o who q cs))
  deals_at fits z id o [] q cs t hold at =
      let s : List (Turn V) = hold.0 in
      let sh : Shows fits z s t = hold.1 in
      let v : View V = view_of o [] q cs in
      let m = sh.seats id v at in
      let new : ℕ = length (set t.views id v) in
      let right : IsView z s sh.owner new (view_of o [] q []) = record { sizes = m.sizes; apart = tt; known = claim_moves z s sh.owner sh.owner id new v.known (λ a g. absurd g) m.known; told = tt; may = λ k g. absurd g } in (
        s,
        record {
          size = sh.size;
          schedule = sh.schedule;
          words = sh.words;
          lawful = sh.lawful;
          owner = sh.owner;
          seats = cut_seats (IsView z s sh.owner) t.views id v (view_of o [] q []) m right (λ k u n e. sh.seats k u e);
          cells = λ k le. cells_go fits (history_of z s) (world_of z s) t.homes t.views (set t.views id v ++ view_of o [] q [] ∷ []) k (cut_cells t.views id v v (view_of o [] q []) at refl k) (sh.cells k le);
        },
      )
  deals_at fits z id o (a ∷ more) q cs t hold at =
      let s : List (Turn V) = hold.0 in
      let sh : Shows fits z s t = hold.1 in
      let v : View V = view_of o (a ∷ more) q cs in
      let left : View V = view_of o more q cs in
      let right : View V = view_of o (a ∷ []) q [] in
      let m = sh.seats id v at in
      let new : ℕ = length (set t.views id left) in
      let owner : ℕ → ℕ = put sh.owner a new in
      let own = m.known.owns a (inl refl) in
      let kept : (k b : ℕ) → b ≢ a → sh.owner b ≡ k → owner b ≡ k = λ k b n o. put_else sh.owner a new b n ∙ o in
      let first : IsClaim z s owner new (claim (a ∷ []) q) = record {
        rest = m.known.rest;
        splits = m.known.splits;
        owns = λ b g. ⊎_elim (λ (e : a ≡ b). (ap owner (sym e) ∙ put_here sh.owner a new, (m.known.owns b (inl e)).1)) (λ (f : ⊥). absurd f) g;
        others = λ b g. ⊎_elim (λ (e : a ≡ b). m.known.others b (inl e)) (λ (f : ⊥). absurd f) g;
      } in
      let rest : IsClaim z s sh.owner id (claim more q) = record {
        rest = m.known.rest;
        splits = m.known.splits;
        owns = λ b g. m.known.owns b (inr g);
        others = λ b g. m.known.others b (inr g);
      } in
      let before : IsView z s sh.owner id left = record { sizes = m.sizes; apart = m.apart.1; known = rest; told = m.told; may = λ k g. absurd g } in (
        s,
        record {
          size = sh.size;
          schedule = sh.schedule;
          words = sh.words;
          lawful = sh.lawful;
          owner = owner;
          seats = cut_seats (IsView z s owner) t.views id left right
              (view_moves z s sh.owner owner id id left (λ b g o. kept id b (λ e. m.apart.0 (subst (Has (more ++ callers_of cs)) e g)) o) before)
              (record { sizes = m.sizes; apart = ((λ g. g), tt); known = first; told = tt; may = λ k g. absurd g })
              (λ k u n e. view_moves z s sh.owner owner k k u (λ b g o. kept k b (λ x. n (sym o ∙ (ap sh.owner x ∙ own.0))) o) (sh.seats k u e));
          cells = λ k le. cells_go fits (history_of z s) (world_of z s) t.homes t.views (set t.views id left ++ right ∷ []) k (cut_cells t.views id v left right at refl k) (sh.cells k le);
        },
      )

  pub deals_split : (fits : FitOf V) (z : Sizes) (id : ℕ) (v : View V) → v.cells ≡ [] → Splits (Holds fits z) id v (without_first v) (first_alone v)
  deals_split fits z id v none = subst (λ (u : View V). Splits (Holds fits z) id u (without_first v) (first_alone v)) (sym (bare v none)) (deals_at fits z id v.sizes v.known.callers v.known.turns v.told)
    where
      bare : (v : View V) → v.cells ≡ [] → v ≡ view_of v.sizes v.known.callers v.known.turns v.told
      bare v none = ap (λ l. with_cells l) none
        where
          with_cells : List ℕ → View V
          with_cells l = record { sizes = v.sizes; known = v.known; told = v.told; cells = l }

  -- nothing has happened, and the first seat stands for all callers
  pub opens : (fits : FitOf V) (z : Sizes) → Holds fits z (opening (replicate (words_in z) 0) (replicate (z.callers + 1) None) (first_view {V = V} z))
  opens fits z = (
    [],
    record {
      size = length-replicate (words_in z) 0;
      schedule = tt;
      words = λ x is. zero_words z x is ∙ nothing V z x;
      lawful = record { keys = λ k. (tt, omega arith); calls = λ a. (tt, omega arith); nexts = λ a. (tt, omega arith) };
      owner = λ _. 0;
      seats = seats;
      cells = λ k le. inl (vacant (z.callers + 1) k (omega arith), tt);
    },
  )
    where
      first : IsView z [] (λ _. 0) 0 (first_view {V = V} z)
      first = record {
        sizes = λ y e. sym (some_same z y e);
        apart = subst AreApart (sym (append-nil (range_with_len 1 z.callers))) (range_apart 1 z.callers);
        known = record { rest = []; splits = refl; owns = λ a g. (refl, (let r = range_has 1 z.callers a g in let low = r.0 in let high = r.1 in (omega arith, omega arith))); others = λ a g. tt };
        told = tt;
        may = λ k g. absurd g;
      }
        where
          some_same : (x y : Sizes) → Some x ≡ Some y → x ≡ y
          some_same x y e = cc

      seats : (k : ℕ) (u : View V) → get_elem? (first_view z ∷ []) k ≡ some u → IsView z [] (λ _. 0) k u
      seats zero u e = subst (λ (x : View V). IsView z [] (λ _. 0) 0 x) (some-injective (first_view z) u e) first
      seats (suc k) u e = absurd (some-ne-none u (sym e))
