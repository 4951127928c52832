-- a row of values, read as a function of its numbers
use Rattle.std.proofs.Common.{◌≡◌, ◌≢◌, ℕ, ◌+◌, ◌<◌, ◌≤◌, ◌==◌, subst, Bool, true, false, List, Option, Some, None, length, inl, inr, refl, sym, arith, ◌∙◌, ap, slice_index_or, slice_set}
use Rattle.std.proofs.Math.ListN.{length-set}
use Rattle.std.proofs.lemmas.Bool.{cases_eq, cases_lt, eq-eqb, true≢false}
use Rattle.std.proofs.lemmas.List.{get_or-set_same, get_or-set_other, get_or-replicate, get_or_past, get_or_default, length-replicate}
use Rattle.std.specs.Prelude.{cond, replicate}
use Rattle.sf_words.specs.declared.key_word.KeyState.{KeyState}
use Rattle.sf_words.specs.declared.call_word.CallState.{CallState}
use Rattle.sf_words.specs.declared.call_word.LeaderState.{LeaderState}
use Rattle.sf_steps_laws.specs.declared.letter.Letter.{Letter}
use Rattle.sf_steps_laws.specs.declared.operation.Stage.{Stage}
use Rattle.sf_steps_laws.specs.declared.operation.Stage.TheVariants.{Free}
use Rattle.sf_steps_laws.specs.Stages.{is_asking, second_in, first_in}
use Rattle.sf_steps.specs.Rows.{first_row, row_at, IsLawful, ArePaired}
use Rattle.sf_steps.specs.declared.caller_row.CallerRow.{CallerRow}
use Rattle.sf_steps_laws.specs.World.{World, is_open_with, with_call, with_next, with_cell, with_stage, with_used}
use Rattle.sf_lists.specs.Functions.{put}
use Rattle.sf_steps.specs.Running.{of_rows}
use Rattle.sf_lists.proofs.Functions.{put_here, put_else}

pub together : {A B : Type 0} (f g : A → B) → ((x : A) → f x ≡ g x) → f ≡ g
together f g same = λ i x. same x i

-- a write to the row changes a part of it there
pub part_set : {A B : Type 0} (p : A → B) (xs : List A) (i : ℕ) (v d : A) (x : B) → i < length xs → p v ≡ x → ◌≡◌ {A = ℕ → B} (λ j. p (slice_index_or (slice_set xs i v) j d)) (put (λ j. p (slice_index_or xs j d)) i x)
part_set {A} {B} p xs i v d x within is = together _ _ at
  where
    at : (j : ℕ) → p (slice_index_or (slice_set xs i v) j d) ≡ put (λ (n : ℕ). p (slice_index_or xs n d)) i x j
    at j = elim (cases_eq j i) [
      | inl here ↦ ap (λ (n : ℕ). p (slice_index_or (slice_set xs i v) n d)) here ∙ (ap p (get_or-set_same xs i v d within) ∙ (is ∙ sym (ap (λ (b : Bool). cond b x (p (slice_index_or xs j d))) (eq-eqb j i here))))
      | inr other ↦ ap p (get_or-set_other xs i j v d other) ∙ sym (put_else (λ (n : ℕ). p (slice_index_or xs n d)) i x j other)
    ]

-- and keeps a part that is as before
pub part_kept : {A B : Type 0} (p : A → B) (xs : List A) (i : ℕ) (v d : A) → i < length xs → p v ≡ p (slice_index_or xs i d) → ◌≡◌ {A = ℕ → B} (λ j. p (slice_index_or (slice_set xs i v) j d)) (λ j. p (slice_index_or xs j d))
part_kept {A} {B} p xs i v d within is = together _ _ at
  where
    at : (j : ℕ) → p (slice_index_or (slice_set xs i v) j d) ≡ p (slice_index_or xs j d)
    at j = elim (cases_eq j i) [
      | inl here ↦ ap (λ (n : ℕ). p (slice_index_or (slice_set xs i v) n d)) here ∙ (ap p (get_or-set_same xs i v d within) ∙ (is ∙ sym (ap (λ (n : ℕ). p (slice_index_or xs n d)) here)))
      | inr other ↦ ap p (get_or-set_other xs i j v d other)
    ]

-- a write to a list changes its values there
pub row_set : {A : Type 0} (xs : List A) (i : ℕ) (v d : A) → i < length xs → (λ (j : ℕ). slice_index_or (slice_set xs i v) j d) ≡ put (λ (j : ℕ). slice_index_or xs j d) i v
row_set {A} xs i v d within = part_set (λ (x : A). x) xs i v d v within refl

-- what holds of each value of a row, after a write
pub all_set : {A : Type 0} (P : A → Type 0) (xs : List A) (i : ℕ) (v d : A) → i < length xs → P v → ((a : ℕ) → P (slice_index_or xs a d)) → (a : ℕ) → P (slice_index_or (slice_set xs i v) a d)
all_set P xs i v d within here all a = elim (cases_eq a i) [
  | inl same ↦ subst P (sym (ap (λ (n : ℕ). slice_index_or (slice_set xs i v) n d) same ∙ get_or-set_same xs i v d within)) here
  | inr other ↦ subst P (sym (get_or-set_other xs i a v d other)) (all a)
]

-- two writes, one after the other
pub put_again : {A : Type 0} (f : ℕ → A) (i : ℕ) (u v : A) → put (put f i u) i v ≡ put f i v
put_again {A} f i u v = together _ _ at
  where
    at : (j : ℕ) → put (put f i u) i v j ≡ put f i v j
    at j = elim (cases_eq j i) [
      | inl here ↦ ap (λ (b : Bool). cond b v (put f i u j)) (eq-eqb j i here) ∙ sym (ap (λ (b : Bool). cond b v (f j)) (eq-eqb j i here))
      | inr other ↦ put_else (put f i u) i v j other ∙ (put_else f i u j other ∙ sym (put_else f i v j other))
    ]

pub put_apart : {A : Type 0} (f : ℕ → A) (i j : ℕ) (u v : A) → i ≢ j → put (put f i u) j v ≡ put (put f j v) i u
put_apart {A} f i j u v apart = together _ _ at
  where
    at : (k : ℕ) → put (put f i u) j v k ≡ put (put f j v) i u k
    at k = elim (cases_eq k i) [
      | inl here ↦ put_else (put f i u) j v k (λ is. apart (sym here ∙ is)) ∙ (ap (λ (n : ℕ). put f i u n) here ∙ (put_here f i u ∙ sym (ap (λ (n : ℕ). put (put f j v) i u n) here ∙ put_here (put f j v) i u)))
      | inr other ↦ ap (λ (x : A). cond (k == j) v x) (put_else f i u k other) ∙ sym (put_else (put f j v) i u k other)
    ]

pub put_same : {A : Type 0} (f : ℕ → A) (i : ℕ) (v : A) → f i ≡ v → put f i v ≡ f
put_same {A} f i v is = together _ _ at
  where
    at : (j : ℕ) → put f i v j ≡ f j
    at j = elim (cases_eq j i) [
      | inl here ↦ ap (λ (b : Bool). cond b v (f j)) (eq-eqb j i here) ∙ (sym is ∙ ap f (sym here))
      | inr other ↦ put_else f i v j other
    ]

pub staged_again : {V : Type 0} (w : World V) (a : ℕ) (s t : Stage V) → with_stage (with_stage w a s) a t ≡ with_stage w a t
staged_again {V} w a s t = ap (λ (row : ℕ → Stage V). record w { stages = row }) (put_again w.stages a s t)

pub none_some : {A : Type 0} (o : Option A) (x : A) → o ≡ None → o ≡ Some x → ⊥
none_some o x none some = cc

-- they still do where the stage changes of a caller that is no second
pub paired_put : {V : Type 0} (f : ℕ → Stage V) (i : ℕ) (v : Stage V) → first_in (f i) ≡ None → ((b : ℕ) → second_in v ≡ Some b → first_in (f b) ≡ Some i) → ArePaired f → ArePaired (put f i v)
paired_put {V} f i v alone knows paired a b has = ap first_in (put_else f i v b other) ∙ known
  where
    known : first_in (f b) ≡ Some a
    known = elim (cases_eq a i) [
      | inl here ↦ subst (λ (n : ℕ). first_in (f b) ≡ Some n) (sym here) (knows b (sym (ap (λ (n : ℕ). second_in (put f i v n)) here ∙ ap second_in (put_here f i v)) ∙ has))
      | inr apart ↦ paired a b (sym (ap second_in (put_else f i v a apart)) ∙ has)
    ]

    other : b ≢ i
    other is = none_some (first_in (f b)) a (ap (λ (n : ℕ). first_in (f n)) is ∙ alone) known

-- and where the stages change of a caller that is no second and of its own second
pub paired_puts : {V : Type 0} (f : ℕ → Stage V) (b : ℕ) (t : Stage V) (a : ℕ) (s : Stage V) → b ≢ a → first_in (f a) ≡ None → ((x : ℕ) → first_in (f b) ≡ Some x → x ≡ a)
    → ((y : ℕ) → second_in s ≡ Some y → (y ≡ b) × (first_in t ≡ Some a)) → second_in t ≡ None → ArePaired f → ArePaired (put (put f b t) a s)
paired_puts {V} f b t a s apart alone first second none paired x y has = elim (cases_eq x a) [
  | inl here ↦
      let own = second y (sym (ap (λ (n : ℕ). second_in (put (put f b t) a s n)) here ∙ ap second_in (put_here (put f b t) a s)) ∙ has) in
      ap (λ (n : ℕ). first_in (put (put f b t) a s n)) own.0 ∙ (ap first_in (put_else (put f b t) a s b apart ∙ put_here f b t) ∙ (own.1 ∙ ap (λ (n : ℕ). Some n) (sym here)))
  | inr other ↦ elim (cases_eq x b) [
    | inl there ↦ absurd (none_some (second_in t) y none (sym (ap (λ (n : ℕ). second_in (put (put f b t) a s n)) there ∙ ap second_in (put_else (put f b t) a s b apart ∙ put_here f b t)) ∙ has))
    | inr elsewhere ↦
        let known : first_in (f y) ≡ Some x = paired x y (sym (ap second_in (put_else (put f b t) a s x other ∙ put_else f b t x elsewhere)) ∙ has) in
        let not_a : y ≢ a = λ is. none_some (first_in (f y)) x (ap (λ (n : ℕ). first_in (f n)) is ∙ alone) known in
        let not_b : y ≢ b = λ is. other (first x (sym (ap (λ (n : ℕ). first_in (f n)) is) ∙ known)) in
        ap first_in (put_else (put f b t) a s y not_a ∙ put_else f b t y not_b) ∙ known
  ]
]

-- a row of one value
pub length_replicate : {A : Type 0} (xs : List A) (n : ℕ) (v : A) → xs ≡ replicate n v → length xs ≡ n
length_replicate {A} xs n v is = ap (λ (ys : List A). length ys) is ∙ length-replicate n v

pub read_replicate : {A : Type 0} (xs : List A) (n : ℕ) (v : A) → xs ≡ replicate n v → ◌≡◌ {A = ℕ → A} (λ k. slice_index_or xs k v) (λ k. v)
read_replicate {A} xs n v is = together (λ (k : ℕ). slice_index_or xs k v) (λ (k : ℕ). v) at
  where
    at : (k : ℕ) → slice_index_or xs k v ≡ v
    at k = elim (cases_lt k n) [
      | inl below ↦ ap (λ (ys : List A). slice_index_or ys k v) is ∙ get_or-replicate n k v v below
      | inr past ↦ get_or_past xs k v (subst (λ (m : ℕ). m ≤ k) (sym (length_replicate xs n v is)) past)
    ]

pub all_replicate : {A : Type 0} (P : A → Type 0) (xs : List A) (n : ℕ) (v : A) → xs ≡ replicate n v → P v → (k : ℕ) → P (slice_index_or xs k v)
all_replicate {A} P xs n v is holds k = subst P (sym (ap (λ (row : ℕ → A). row k) (read_replicate xs n v is))) holds

-- a world by its parts
pub world_by_parts : {V : Type 0} {callers : ℕ} {keys keys' : ℕ → KeyState} {calls calls' : ℕ → CallState} {nexts nexts' : ℕ → Option ℕ} {cells cells' : ℕ → Option (Letter V)} {generations generations' : ℕ → ℕ} {stages stages' : ℕ → Stage V}
    → keys ≡ keys' → calls ≡ calls' → nexts ≡ nexts' → cells ≡ cells' → generations ≡ generations' → stages ≡ stages'
    → ◌≡◌ {A = World V} (record { callers = callers; keys = keys; calls = calls; nexts = nexts; cells = cells; generations = generations; stages = stages })
    (record { callers = callers; keys = keys'; calls = calls'; nexts = nexts'; cells = cells'; generations = generations'; stages = stages' })
world_by_parts {callers = callers} ks cs ns es gs ss = λ i. record { callers = callers; keys = ks i; calls = cs i; nexts = ns i; cells = es i; generations = gs i; stages = ss i }

-- two writes to the row
pub still_below : {A : Type 0} (xs : List A) (i : ℕ) (u : A) (j : ℕ) → j < length xs → j < length (slice_set xs i u)
still_below xs i u j below = subst (λ (n : ℕ). j < n) (sym (length-set xs i u)) below

-- the world of first rows
pub world_at_first : {V : Type 0} {callers : ℕ} {keys keys' : ℕ → KeyState} {rows rows' : ℕ → CallerRow V} → keys ≡ keys' → rows ≡ rows'
    → ◌≡◌ {A = World V} (record { callers = callers; keys = keys; calls = λ a. (rows a).call; nexts = λ a. (rows a).next; cells = λ a. (rows a).cell; generations = λ a. (rows a).generation; stages = λ a. (rows a).stage })
    (record { callers = callers; keys = keys'; calls = λ a. (rows' a).call; nexts = λ a. (rows' a).next; cells = λ a. (rows' a).cell; generations = λ a. (rows' a).generation; stages = λ a. (rows' a).stage })
world_at_first {callers = callers} ks rs = λ i. record { callers = callers; keys = ks i; calls = λ a. (rs i a).call; nexts = λ a. (rs i a).next; cells = λ a. (rs i a).cell; generations = λ a. (rs i a).generation; stages = λ a. (rs i a).stage }

module _ {V : Type 0} where
  -- past the callers there are the rows of nobody
  pub past_free : (rows : List (CallerRow V)) (callers : ℕ) → length rows ≡ callers + 1 → (b : ℕ) → callers < b → (row_at rows b).stage ≡ Free
  past_free rows callers long b past = ap (λ (r : CallerRow V). r.stage) (get_or_past rows b first_row (omega arith))

  -- a row that is lent is the caller's
  pub lent_row : (rows : List (CallerRow V)) (a : ℕ) (d : CallerRow V) → a < length rows → d ≡ slice_index_or rows a d → d ≡ row_at rows a
  lent_row rows a d within is = is ∙ get_or_default rows a d first_row within

  module _ (size : ℕ) (keys : ℕ → KeyState) (rows : List (CallerRow V)) (a : ℕ) (d : CallerRow V) (within : a < length rows) (is : d ≡ row_at rows a) where
    call_kept : (r : CallerRow V) → r.call ≡ d.call → ◌≡◌ {A = ℕ → CallState} (λ j. (row_at (slice_set rows a r) j).call) (λ j. (row_at rows j).call)
    call_kept r same = part_kept (λ (x : CallerRow V). x.call) rows a r first_row within (same ∙ ap (λ (x : CallerRow V). x.call) is)

    next_kept : (r : CallerRow V) → r.next ≡ d.next → ◌≡◌ {A = ℕ → Option ℕ} (λ j. (row_at (slice_set rows a r) j).next) (λ j. (row_at rows j).next)
    next_kept r same = part_kept (λ (x : CallerRow V). x.next) rows a r first_row within (same ∙ ap (λ (x : CallerRow V). x.next) is)

    cell_kept : (r : CallerRow V) → r.cell ≡ d.cell → ◌≡◌ {A = ℕ → Option (Letter V)} (λ j. (row_at (slice_set rows a r) j).cell) (λ j. (row_at rows j).cell)
    cell_kept r same = part_kept (λ (x : CallerRow V). x.cell) rows a r first_row within (same ∙ ap (λ (x : CallerRow V). x.cell) is)

    pub generation_kept : (r : CallerRow V) → r.generation ≡ d.generation → ◌≡◌ {A = ℕ → ℕ} (λ j. (row_at (slice_set rows a r) j).generation) (λ j. (row_at rows j).generation)
    generation_kept r same = part_kept (λ (x : CallerRow V). x.generation) rows a r first_row within (same ∙ ap (λ (x : CallerRow V). x.generation) is)

    pub stage_kept : (r : CallerRow V) → r.stage ≡ d.stage → ◌≡◌ {A = ℕ → Stage V} (λ j. (row_at (slice_set rows a r) j).stage) (λ j. (row_at rows j).stage)
    stage_kept r same = part_kept (λ (x : CallerRow V). x.stage) rows a r first_row within (same ∙ ap (λ (x : CallerRow V). x.stage) is)

    -- the world after a write of one part of a row
    pub call_set : (word : CallState) → of_rows size keys (slice_set rows a (record d { call = word })) ≡ with_call (of_rows size keys rows) a word
    call_set word = let r = record d { call = word } in
        world_by_parts refl (part_set (λ (x : CallerRow V). x.call) rows a r first_row word within refl) (next_kept r refl) (cell_kept r refl) (generation_kept r refl) (stage_kept r refl)

    pub next_set : (next : Option ℕ) → of_rows size keys (slice_set rows a (record d { next = next })) ≡ with_next (of_rows size keys rows) a next
    next_set next = let r = record d { next = next } in
        world_by_parts refl (call_kept r refl) (part_set (λ (x : CallerRow V). x.next) rows a r first_row next within refl) (cell_kept r refl) (generation_kept r refl) (stage_kept r refl)

    pub cell_set : (cell : Option (Letter V)) → of_rows size keys (slice_set rows a (record d { cell = cell })) ≡ with_cell (of_rows size keys rows) a cell
    cell_set cell = let r = record d { cell = cell } in
        world_by_parts refl (call_kept r refl) (next_kept r refl) (part_set (λ (x : CallerRow V). x.cell) rows a r first_row cell within refl) (generation_kept r refl) (stage_kept r refl)

    pub generation_used : of_rows size keys (slice_set rows a (record d { generation = d.generation + 1 })) ≡ with_used (of_rows size keys rows) a
    generation_used = let r = record d { generation = d.generation + 1 } in
        world_by_parts refl (call_kept r refl) (next_kept r refl) (cell_kept r refl) (part_set (λ (x : CallerRow V). x.generation) rows a r first_row ((row_at rows a).generation + 1) within (ap (λ (x : CallerRow V). x.generation + 1) is)) (stage_kept r refl)

    pub stage_set : (stage : Stage V) → of_rows size keys (slice_set rows a (record d { stage = stage })) ≡ with_stage (of_rows size keys rows) a stage
    stage_set stage = let r = record d { stage = stage } in
        world_by_parts refl (call_kept r refl) (next_kept r refl) (cell_kept r refl) (generation_kept r refl) (part_set (λ (x : CallerRow V). x.stage) rows a r first_row stage within refl)

    -- chans are paired after a write of another part
    pub still_paired : (r : CallerRow V) → r.stage ≡ d.stage → ArePaired (λ j. (row_at rows j).stage) → ArePaired (λ j. (row_at (slice_set rows a r) j).stage)
    still_paired r same paired = subst (λ (f : ℕ → Stage V). ArePaired f) (sym (stage_kept r same)) paired

    -- each row is lawful after the write of a lawful one
    pub lawful_set : (callers places : ℕ) (r : CallerRow V) → ((b : ℕ) → IsLawful callers places (row_at rows b)) → (IsLawful callers places d → IsLawful callers places r) → (b : ℕ) → IsLawful callers places (row_at (slice_set rows a r) b)
    lawful_set callers places r all goes = all_set (λ (x : CallerRow V). IsLawful callers places x) rows a r first_row within (goes (subst (λ (x : CallerRow V). IsLawful callers places x) (sym is) (all a))) all

    -- chans are paired after the write of a stage of a caller that is no second
    pub paired_set : (stage : Stage V) → first_in (row_at rows a).stage ≡ None → ((b : ℕ) → second_in stage ≡ Some b → first_in (row_at rows b).stage ≡ Some a) → ArePaired (λ j. (row_at rows j).stage) → ArePaired (λ j. (row_at (slice_set rows a (record d { stage = stage })) j).stage)
    paired_set stage alone knows paired =
        subst (λ (f : ℕ → Stage V). ArePaired f) (sym (ap (λ (w : World V). w.stages) (stage_set stage))) (paired_put (λ j. (row_at rows j).stage) a stage alone knows paired)

  -- who is open is a caller
  pub open_within : (rows : List (CallerRow V)) (callers a : ℕ) (seen : LeaderState) → length rows ≡ callers + 1 → is_open_with seen (row_at rows a).call ≡ true → a ≤ callers
  open_within rows callers a seen long is_open = elim (cases_lt a (length rows)) [
    | inl below ↦ omega arith
    | inr past ↦ let free : is_open_with seen (row_at rows a).call ≡ false = ap (λ (r : CallerRow V). is_open_with seen r.call) (get_or_past rows a first_row past) in absurd (true≢false (sym is_open ∙ free))
  ]

  -- who asks is a caller
  pub asks_within : (rows : List (CallerRow V)) (callers a : ℕ) → length rows ≡ callers + 1 → is_asking (row_at rows a).stage ≡ true → a ≤ callers
  asks_within rows callers a long asks = elim (cases_lt callers a) [
    | inl past ↦ absurd (true≢false (sym asks ∙ ap is_asking (past_free rows callers long a past)))
    | inr within ↦ within
  ]
