-- Each step keeps the rule, and tells what its Play says.
use Rattle.std.proofs.Common.{◌≡◌, ◌≢◌, ℕ, ◌+◌, ◌%◌, ◌<◌, ◌≤◌, ⊎_elim, true, false, List, [], ◌∷◌, ◌++◌, take, length, set, refl, sym, ap, ◌∙◌, subst, append_assoc, Some, None, arith}
use mathlib.Core.Option.{some, none}
use mathlib.Core.Logic.{dite}
use native.Mathlib.Decide.{ℕ_discrete}
use lib.ListN.{get_elem?}
use Rattle.std.specs.Prelude.{slice_index, is_some}
use Rattle.std.specs.List.{Contains}
use Rattle.std.proofs.Math.Nat.{mod-eq_of_lt}
use Rattle.std.proofs.lemmas.List.{append-nil, length-set, set-get_or, get_or-set_same, get_or-set_other, length_push, length-take-le, get_or_push, get_or_append_left, get_or-take}
use Rattle.std.proofs.lemmas.List.Elements.{Contains-append_cases}
use Rattle.atomic_table.specs.Table.{State, Me, step, keeps, Allows}
use Rattle.atomic_table.proofs.Lists.{at_set}
use Rattle.sf_dir.specs.declared.rule.DirectorySizes.{DirectorySizes}
use Rattle.sf_dir.specs.declared.rule.Entry.{Entry}
use Rattle.sf_dir.specs.declared.rule.Spare.{Spare}
use Rattle.sf_dir.specs.declared.rule.View.{View}
use Rattle.sf_dir.specs.Rule.{StandsFor, own_names, IsPlaceWord, IsSound, is_named, AllHeard, Holders, IsSpare, IsView, Shows, Holds}
use Rattle.sf_dir.specs.WordIndex.{IsWithinLimits, row_width, row_count, counter_at, row_at}
use Rattle.sf_dir.specs.Plays.{Grows, IsWord, Looked, looks, Drew, draws, Wrote, writes}
use Rattle.sf_dir.proofs.Counts.{count_to_le, count_to_more, count_to_room}
use Rattle.sf_dir.proofs.Elements.{own_append, heard_longer}
use Rattle.sf_dir.proofs.Rows.{row_within, rows_differ}
use Rattle.sf_lists.specs.Functions.{put}
use Rattle.sf_lists.proofs.Functions.{put_here, put_else}

-- what a step changes of the words, names and holders, as the seat k sees it
pub record Spares (z : DirectorySizes) (added : List Entry) (ws ws' : List ℕ) (drawn : ℕ) (o o' : Holders) (k : ℕ) : Type 0 where
  pub quiet : (d : ℕ) → o.seat_of d ≡ k → own_names d added ≡ []
  pub desks : (d : ℕ) → o.seat_of d ≡ k → (o'.seat_of d ≡ k) × (o'.has_spare d ≡ o.has_spare d)
  pub keeps_row : (r : ℕ) → o.keeper_of r ≡ k → r < drawn → o'.keeper_of r ≡ k
  pub other_rows : (r : ℕ) → o.keeper_of r ≡ k → r < drawn → (e : Entry) → Contains added e → e.row ≢ r
  pub words : (r : ℕ) → o.keeper_of r ≡ k → r < drawn → (i : ℕ) → i < row_width z → slice_index ws' (row_at z r + i) ≡ slice_index ws (row_at z r + i)

-- what is true of a seat that makes no step lasts
lasts : (z : DirectorySizes) (h h' added : List Entry) (ws ws' : List ℕ) (drawn drawn' : ℕ) (o o' : Holders) (k : ℕ) (u : View) → h' ≡ h ++ added → drawn ≤ drawn'
    → Spares z added ws ws' drawn o o' k → IsView z h ws drawn o k u → IsView z h' ws' drawn' o' k u
lasts z h h' added ws ws' drawn drawn' o o' k u e le p m = record {
  sizes = m.sizes;
  rest = m.rest ++ added;
  splits = e ∙ (ap (λ q. q ++ added) m.splits ∙ append_assoc u.seen m.rest added);
  others = λ d s. own_append d m.rest added ∙ (ap (λ q. q ++ own_names d added) (m.others d s) ∙ p.quiet d (m.desks d s).0);
  desks = λ d s. let a = m.desks d s in let b = p.desks d a.0 in (b.0, a.1, a.2, b.1 ∙ a.3);
  told = subst (λ q. AllHeard q u.told) (sym e) (heard_longer h added u.told m.told);
  spare = λ s is. let a = m.spare s is in record {
    is_drawn = let lt = a.is_drawn in omega arith;
    kept = p.keeps_row s.row a.kept a.is_drawn;
    alone = a.alone;
    unnamed = λ x c. ⊎_elim (λ (g : Contains h x). a.unnamed x g) (λ (g : Contains added x). p.other_rows s.row a.kept a.is_drawn x g) (Contains-append_cases h added x (subst (λ q. Contains q x) e c));
    short = a.short;
    written = λ i lt. let short = a.short in p.words s.row a.kept a.is_drawn i (omega arith) ∙ a.written i lt;
  };
}

-- the seats after a step of the seat id
pub seats_on : (z : DirectorySizes) (h h' added : List Entry) (ws ws' : List ℕ) (drawn drawn' : ℕ) (o o' : Holders) (id : ℕ) (w : View) (views : List View) → h' ≡ h ++ added → drawn ≤ drawn'
    → ((k : ℕ) → k ≢ id → Spares z added ws ws' drawn o o' k) → ((k : ℕ) (u : View) → get_elem? views k ≡ some u → IsView z h ws drawn o k u) → IsView z h' ws' drawn' o' id w
    → (k : ℕ) (u : View) → get_elem? (set views id w) k ≡ some u → IsView z h' ws' drawn' o' k u
seats_on z h h' added ws ws' drawn drawn' o o' id w views e le p m mine k u q = ⊎_elim
    (λ (a : (k ≡ id) × (w ≡ u)). subst (λ (y : View). IsView z h' ws' drawn' o' k y) a.1 (subst (λ (n : ℕ). IsView z h' ws' drawn' o' n w) (sym a.0) mine))
    (λ (a : (k ≢ id) × (get_elem? views k ≡ some u)). lasts z h h' added ws ws' drawn drawn' o o' k u e le (p k a.0) (m k u a.1))
    (at_set views id k w u q)

-- a step that changes nothing but the seat's view
nothing : (z : DirectorySizes) (ws : List ℕ) (drawn : ℕ) (o : Holders) (k : ℕ) → Spares z [] ws ws drawn o o k
nothing z ws drawn o k = record {
  quiet = λ d e. refl;
  desks = λ d e. (e, refl);
  keeps_row = λ r e l. e;
  other_rows = λ r e l x c. let lt = c.1 in absurd (omega arith);
  words = λ r e l i lt. refl;
}

-- the view with all that is known now
abbrev pub seen_all : View → List Entry → View
seen_all v h = record { sizes = v.sizes; from = v.from; to = v.to; seen = h; spare = v.spare; told = [] }

-- the seat's own view after a step by which it sees all, and keeps its spare row
pub own_view : (z : DirectorySizes) (h : List Entry) (ws : List ℕ) (drawn : ℕ) (o : Holders) (id : ℕ) (v : View) → IsView z h ws drawn o id v → IsView z h ws drawn o id (seen_all v h)
own_view z h ws drawn o id v m = record {
  sizes = m.sizes;
  rest = [];
  splits = sym (append-nil h);
  others = λ d s. refl;
  desks = m.desks;
  told = tt;
  spare = λ s is. let a = m.spare s is in record { is_drawn = a.is_drawn; kept = a.kept; alone = a.alone; unnamed = a.unnamed; short = a.short; written = a.written };
}

pub sees_all : (z : DirectorySizes) (h : List Entry) (ws : List ℕ) (drawn : ℕ) (o : Holders) (id : ℕ) (v w : View) → IsView z h ws drawn o id v → IsSound z h → w.sizes ≡ v.sizes → w.from ≡ v.from → w.to ≡ v.to → w.told ≡ [] → w.seen ≡ h → Grows v w []
sees_all z h ws drawn o id v w m sound a b c d e = record {
  sizes = a;
  from = b;
  to = c;
  told = d;
  more = m.rest;
  seen = e ∙ m.splits;
  own = m.others;
  heard = subst (λ q. AllHeard q v.told) (sym e) m.told;
  sound = λ y is. subst (λ q. IsSound y q) (sym e) (subst (λ q. IsSound q h) (sym (m.sizes y is)) sound);
}

-- a load keeps the rule, and so does an exchange that fails
pub loaded : (z : DirectorySizes) (t : State ℕ View) (h : List Entry) (sh : Shows z h t) (id : ℕ) (v : View) → get_elem? t.views id ≡ some v → Shows z h (record { words = t.words; homes = t.homes; views = set t.views id (seen_all v h) })
loaded z t h sh id v is = record {
  size = sh.size;
  sound = sh.sound;
  places = sh.places;
  rows = sh.rows;
  drawn = sh.drawn;
  counter = sh.counter;
  used = sh.used;
  holders = sh.holders;
  counts = sh.counts;
  seats = seats_on z h h [] t.words t.words sh.drawn sh.drawn sh.holders sh.holders id (seen_all v h) t.views (sym (append-nil h)) (omega arith) (λ k d. nothing z t.words sh.drawn sh.holders k) sh.seats (own_view z h t.words sh.drawn sh.holders id v (sh.seats id v is));
}

reads : (z : DirectorySizes) (t : State ℕ View) (h : List Entry) → Shows z h t → (i : ℕ) → IsWord z h i (slice_index t.words i)
reads z t h sh i = record {
  place = sh.places i;
  row = λ e c j lt is. ap (slice_index t.words) is ∙ sh.rows e c j lt;
}

pub look_allows : (z : DirectorySizes) (slots id i : ℕ) (me : Me ℕ View) → Allows (Holds z) slots id me i (λ n. n) (looks (step slots i 0 0 none) me)
look_allows z slots id i me t hold len is fits =
    let h = hold.0 in
    let sh = hold.1 in
    let w = seen_all me.0 h in
    let m = sh.seats id me.0 is in (
      w,
      keeps,
      tt,
      (h, subst (λ ws. Shows z h (record { words = ws; homes = t.homes; views = set t.views id w })) (sym (set-get_or t.words i 0)) (loaded z t h sh id me.0 is)),
      λ y e. let told : Looked z i me.0 (slice_index t.words i) w = record { grows = sees_all z h t.words sh.drawn sh.holders id me.0 w m sh.sound refl refl refl refl refl; spare = refl; reads = reads z t h sh i } in
          subst (λ q. Looked q i me.0 (slice_index t.words i) w) (sym (m.sizes y e)) told,
    )

-- the desk of a seat that stands for one alone
pub alone_is : (v : View) (d : ℕ) → v.to ≡ v.from + 1 → StandsFor v d → d ≡ v.from
alone_is v d e s = let a = s.0 in let b = s.1 in omega arith

pub stands_alone : (v : View) → v.to ≡ v.from + 1 → StandsFor v v.from
stands_alone v e = (omega arith, omega arith)

pub drawn_most : (z : DirectorySizes) (h : List Entry) (t : State ℕ View) (sh : Shows z h t) → sh.drawn ≤ row_count z
drawn_most z h t sh = let a = count_to_le (is_named h) z.keys in let b = count_to_le sh.holders.has_spare z.desks in let c = sh.counts in omega arith

-- a row is drawn
drawn_holders : Holders → ℕ → ℕ → ℕ → Holders
drawn_holders o row id desk = record { seat_of = o.seat_of; keeper_of = put o.keeper_of row id; has_spare = put o.has_spare desk true }

drawn_view : View → List Entry → ℕ → View
drawn_view v h row = record { sizes = v.sizes; from = v.from; to = v.to; seen = h; spare = Some (record { row = row; words = [] }); told = [] }

drawn_shows : (z : DirectorySizes) (t : State ℕ View) (h : List Entry) (sh : Shows z h t) (id : ℕ) (v : View) → get_elem? t.views id ≡ some v → v.to ≡ v.from + 1 → v.spare ≡ None
    → Shows z h (record { words = set t.words (counter_at z) (sh.drawn + 1); homes = t.homes; views = set t.views id (drawn_view v h sh.drawn) })
unfolding drawn_holders drawn_view
drawn_shows z t h sh id v is one free =
    let m = sh.seats id v is in
    let me = m.desks v.from (stands_alone v one) in
    let none : sh.holders.has_spare v.from ≡ false = me.3 ∙ ap is_some free in
    let o = drawn_holders sh.holders sh.drawn id v.from in
    let ws = set t.words (counter_at z) (sh.drawn + 1) in
    let other : (j : ℕ) → j ≢ counter_at z → slice_index ws j ≡ slice_index t.words j = λ j d. get_or-set_other t.words (counter_at z) j (sh.drawn + 1) 0 d in
    let size = sh.size in
    let room : counter_at z < length t.words = omega arith in
    let more = count_to_more sh.holders.has_spare o.has_spare z.desks v.from me.1 me.2 none (put_here sh.holders.has_spare v.from true) (λ j d. put_else sh.holders.has_spare v.from true j d) in
    record {
      size = length-set t.words (counter_at z) (sh.drawn + 1) ∙ sh.size;
      sound = sh.sound;
      places = λ p l u. subst (IsPlaceWord h p) (sym (other p (λ e. omega arith))) (sh.places p l u);
      rows = λ e c i lt. other (row_at z e.row + i) (λ q. omega arith) ∙ sh.rows e c i lt;
      drawn = sh.drawn + 1;
      counter = get_or-set_same t.words (counter_at z) (sh.drawn + 1) 0 room;
      used = λ e c. let lt = sh.used e c in omega arith;
      holders = o;
      counts = let was = sh.counts in omega arith;
      seats = seats_on z h h [] t.words ws sh.drawn (sh.drawn + 1) sh.holders o id (drawn_view v h sh.drawn) t.views (sym (append-nil h)) (omega arith)
          (λ k d. record {
            quiet = λ b e. refl;
            desks = λ b e. (e, put_else sh.holders.has_spare v.from true b (λ q. d (sym e ∙ (ap sh.holders.seat_of q ∙ me.0))));
            keeps_row = λ r e l. put_else sh.holders.keeper_of sh.drawn id r (λ q. omega arith) ∙ e;
            other_rows = λ r e l x c. let lt = c.1 in absurd (omega arith);
            words = λ r e l i lt. other (row_at z r + i) (λ q. omega arith);
          })
          sh.seats
          (record {
            sizes = m.sizes;
            rest = [];
            splits = sym (append-nil h);
            others = λ d s. refl;
            desks = λ d s. let a = m.desks d s in let e : d ≡ v.from = alone_is v d one s in (a.0, a.1, a.2, ap o.has_spare e ∙ put_here sh.holders.has_spare v.from true);
            told = tt;
            spare = λ s q.
                let e : record { row = sh.drawn; words = [] } ≡ s = cc in
                let row : sh.drawn ≡ s.row = ap (λ (x : Spare). x.row) e in
                let words : [] ≡ s.words = ap (λ (x : Spare). x.words) e in
                let none : length s.words ≡ 0 = ap length (sym words) in
                record {
                  is_drawn = omega arith;
                  kept = ap o.keeper_of (sym row) ∙ put_here sh.holders.keeper_of sh.drawn id;
                  alone = one;
                  unnamed = λ x c w. let lt = sh.used x c in absurd (omega arith);
                  short = omega arith;
                  written = λ i lt. absurd (omega arith);
                };
          });
    }

pub draw_allows : (z : DirectorySizes) (slots id i : ℕ) (me : Me ℕ View) → IsWithinLimits z → i ≡ counter_at z → me.0.to ≡ me.0.from + 1 → me.0.spare ≡ None → Allows (Holds z) slots id me i (λ n. (n + 1) % 18446744073709551616) (draws (step slots i 1 0 none) me)
unfolding drawn_view
draw_allows z slots id i me limits at one free t hold len is fits =
    let h = hold.0 in
    let sh = hold.1 in
    let v = me.0 in
    let w = drawn_view v h sh.drawn in
    let m = sh.seats id v is in
    let desk = m.desks v.from (stands_alone v one) in
    let none : sh.holders.has_spare v.from ≡ false = desk.3 ∙ ap is_some free in
    let room = count_to_room sh.holders.has_spare z.desks v.from desk.1 desk.2 none in
    let named = count_to_le (is_named h) z.keys in
    let found : slice_index t.words i ≡ sh.drawn = ap (slice_index t.words) at ∙ sh.counter in
    let keys = limits.keys in
    let desks = limits.desks in
    let counts = sh.counts in
    let next : (slice_index t.words i + 1) % 18446744073709551616 ≡ sh.drawn + 1 = ap (λ n. (n + 1) % 18446744073709551616) found ∙ mod-eq_of_lt (omega arith) in (
      w,
      keeps,
      tt,
      (h, subst (λ n. Shows z h (record { words = set t.words i n; homes = t.homes; views = set t.views id w })) (sym next) (subst (λ j. Shows z h (record { words = set t.words j (sh.drawn + 1); homes = t.homes; views = set t.views id w })) (sym at) (drawn_shows z t h sh id v is one free))),
      λ y e. let told : Drew z v (slice_index t.words i) w = record { grows = sees_all z h t.words sh.drawn sh.holders id v w m sh.sound refl refl refl refl refl; spare = ap (λ n. Some (record { row = n; words = [] })) (sym found); within = omega arith } in
          subst (λ q. Drew q v (slice_index t.words i) w) (sym (m.sizes y e)) told,
    )

-- a word of the spare row is written
written_view : View → List Entry → Spare → ℕ → ℕ → View
written_view v h s j x = record { sizes = v.sizes; from = v.from; to = v.to; seen = h; spare = Some (record { row = s.row; words = take j s.words ++ x ∷ [] }); told = [] }

row_here : (z : DirectorySizes) (t : State ℕ View) (h : List Entry) (sh : Shows z h t) (row j : ℕ) → row < sh.drawn → j < row_width z → row_at z row + j < length t.words
row_here z t h sh row j lt w = let most = drawn_most z h t sh in let size = sh.size in let inside = row_within z row j (omega arith) w in omega arith

written_shows : (z : DirectorySizes) (t : State ℕ View) (h : List Entry) (sh : Shows z h t) (id : ℕ) (v : View) (s : Spare) (j x : ℕ) → get_elem? t.views id ≡ some v → v.spare ≡ Some s → j < row_width z → j ≤ length s.words
    → Shows z h (record { words = set t.words (row_at z s.row + j) x; homes = t.homes; views = set t.views id (written_view v h s j x) })
unfolding written_view
written_shows z t h sh id v s j x is has within le =
    let m = sh.seats id v is in
    let spare = m.spare s has in
    let at : ℕ = row_at z s.row + j in
    let ws = set t.words at x in
    let other : (k : ℕ) → k ≢ at → slice_index ws k ≡ slice_index t.words k = λ k d. get_or-set_other t.words at k x 0 d in
    let room = row_here z t h sh s.row j spare.is_drawn within in
    let front : length (take j s.words) ≡ j = length-take-le j s.words le in
    let long : length (take j s.words ++ x ∷ []) ≡ j + 1 = length_push (take j s.words) x ∙ ap (λ n. n + 1) front in
    record {
      size = length-set t.words at x ∙ sh.size;
      sound = sh.sound;
      places = λ p l u. subst (IsPlaceWord h p) (sym (other p (λ e. omega arith))) (sh.places p l u);
      rows = λ e c i lt. other (row_at z e.row + i) (rows_differ z e.row s.row i j (spare.unnamed e c) lt within) ∙ sh.rows e c i lt;
      drawn = sh.drawn;
      counter = other (counter_at z) (λ e. omega arith) ∙ sh.counter;
      used = sh.used;
      holders = sh.holders;
      counts = sh.counts;
      seats = seats_on z h h [] t.words ws sh.drawn sh.drawn sh.holders sh.holders id (written_view v h s j x) t.views (sym (append-nil h)) (omega arith)
          (λ k d. record {
            quiet = λ b e. refl;
            desks = λ b e. (e, refl);
            keeps_row = λ r e l. e;
            other_rows = λ r e l y c. let lt = c.1 in absurd (omega arith);
            words = λ r e l i lt. other (row_at z r + i) (rows_differ z r s.row i j (λ q. d (sym e ∙ (ap sh.holders.keeper_of q ∙ spare.kept))) lt within);
          })
          sh.seats
          (record {
            sizes = m.sizes;
            rest = [];
            splits = sym (append-nil h);
            others = λ d q. refl;
            desks = λ d q. let a = m.desks d q in (a.0, a.1, a.2, a.3 ∙ ap is_some has);
            told = tt;
            spare = λ y q.
                let e : record { row = s.row; words = take j s.words ++ x ∷ [] } ≡ y = cc in
                let own : IsSpare z h ws sh.drawn sh.holders id (written_view v h s j x) (record { row = s.row; words = take j s.words ++ x ∷ [] }) = record {
                  is_drawn = spare.is_drawn;
                  kept = spare.kept;
                  alone = spare.alone;
                  unnamed = spare.unnamed;
                  short = omega arith;
                  written = λ i lt. dite (ℕ_discrete i j)
                      (λ i_is. ap (λ k. slice_index ws (row_at z s.row + k)) i_is ∙ (get_or-set_same t.words at x 0 room ∙ (sym (get_or_push (take j s.words) x 0 j front) ∙ ap (slice_index (take j s.words ++ x ∷ [])) (sym i_is))))
                      (λ i_not. let before : i < j = grind (arith, i_not, lt, long) in
                      other (row_at z s.row + i) (λ k. i_not (omega arith)) ∙ (spare.written i (omega arith) ∙ (sym (get_or-take j s.words i 0 before) ∙ sym (get_or_append_left (take j s.words) (x ∷ []) 0 i (omega arith)))));
                } in
                subst (IsSpare z h ws sh.drawn sh.holders id (written_view v h s j x)) e own;
          });
    }

-- which word of a row this is
which_word : (z : DirectorySizes) (r i j w : ℕ) → w ≡ row_at z r + i → w ≡ row_at z r + j → i ≡ j
which_word z r i j w a b = omega arith

-- the spare row with its first words, and one more behind them
abbrev pub spare_with : Spare → ℕ → ℕ → Spare
spare_with s j x = record { row = s.row; words = take j s.words ++ x ∷ [] }

-- what is written at a word of the spare row, by the word's place in the row
written_same : (z : DirectorySizes) (s u : Spare) (i j k x : ℕ) → s ≡ u → i ≡ row_at z s.row + j → i ≡ row_at z u.row + k → Some (spare_with s j x) ≡ Some (spare_with u k x)
written_same z s u i j k x same at at' =
    let one : j ≡ k = which_word z s.row j k i at (at' ∙ ap (λ (q : Spare). row_at z q.row + k) (sym same)) in
    ap (λ (q : Spare). Some (spare_with q j x)) same ∙ ap (λ n. Some (spare_with u n x)) one

pub write_allows : (z : DirectorySizes) (slots id i x : ℕ) (me : Me ℕ View) → (s : Spare) × (j : ℕ) × (me.0.spare ≡ Some s) × (i ≡ row_at z s.row + j) × (j < row_width z) × (j ≤ length s.words)
    → Allows (Holds z) slots id me i (λ _. x) (λ _. writes (step slots i x 0 none) me x)
unfolding written_view
write_allows z slots id i x me may t hold len is fits =
    let h = hold.0 in
    let sh = hold.1 in
    let v = me.0 in
    let s : Spare = may.0 in
    let j : ℕ = may.1 in
    let has : v.spare ≡ Some s = may.2 in
    let at : i ≡ row_at z s.row + j = may.3 in
    let w = written_view v h s j x in
    let m = sh.seats id v is in (
      w,
      keeps,
      tt,
      (h, subst (λ k. Shows z h (record { words = set t.words k x; homes = t.homes; views = set t.views id w })) (sym at) (written_shows z t h sh id v s j x is has may.4 may.5)),
      λ y e. let told : Wrote z i v x w = record {
        grows = sees_all z h t.words sh.drawn sh.holders id v w m sh.sound refl refl refl refl refl;
        spare = λ u k has' at'. written_same z s u i j k x (let same : s ≡ u = cc in same) at at';
      } in
          subst (λ q. Wrote q i v x w) (sym (m.sizes y e)) told,
    )
