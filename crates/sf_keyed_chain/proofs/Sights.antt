-- Sights that go on.
use Rattle.std.proofs.Common.{◌⊎◌, ◌≡◌, ◌≢◌, ℕ, zero, suc, ◌+◌, ◌<◌, ◌≤◌, Bool, true, false, List, [], ◌∷◌, ◌++◌, set, get_or, length, Option, Some, None, refl, sym, ◌∙◌, ap, subst, inl, inr, ⊎_elim, arith, append_assoc, length-set, length-append}
use Rattle.std.specs.Bool.{OnTrue}
use Rattle.std.specs.List.{slice_get}
use Rattle.std.specs.Prelude.{if◌then◌else◌}
use Rattle.std.proofs.lemmas.Option.{slice_get_within, slice_get-get_or}
use Rattle.std.proofs.lemmas.Bool.{true≢false}
use Rattle.std.proofs.lemmas.List.{get_or-set_same}
use mathlib.Core.Logic.{dite}
use native.Mathlib.Decide.{ℕ_discrete}
use Rattle.sf_keyed.specs.Known.{FrontState, GroupId, IsGone}
use Rattle.sf_keyed_chain.specs.Chains.{Sight, GoesOn, IsOf, IsLater, IsHeard, AllGoOn, AllHeard, Called, CalledBy, IsGoneBefore, IsGoneHere, IsTokenOf, TokenState}
use Rattle.sf_keyed_chain.specs.Notes.{HasHeard, HasLearned, IsNoteOf, IsToldOf, ToldState, told_of}
use Rattle.sf_keyed_chain.proofs.Later.{knows_both, knows_same, on_same, on_both}

unwrapped : {X : Type 0} → X → Option X → X
unwrapped d None = d
unwrapped d (Some x) = x

is_there : {X : Type 0} → Option X → Bool
is_there None = false
is_there (Some x) = true

none_some : {X : Type 0} (s : X) → None ≡ Some s → ⊥
unfolding is_there
none_some s e = true≢false (sym (ap is_there e))

pub some_is : {X : Type 0} (x y : X) → Some x ≡ Some y → x ≡ y
unfolding unwrapped
some_is x y e = ap (unwrapped x) e

pub later_same : (s : Sight) → IsLater s s
later_same s = record { cell = refl; on = on_same s.front; ages = knows_same s.known }

later_both : (a b c : Sight) → IsLater a b → IsLater b c → IsLater a c
later_both a b c one two = record { cell = two.cell ∙ one.cell; on = on_both a.front b.front c.front one.on two.on; ages = knows_both a.known b.known c.known one.ages two.ages }

pub heard_same : (s : Sight) → IsHeard s s
heard_same s = record { later = later_same s; spare = refl }

heard_both : (a b c : Sight) → IsHeard a b → IsHeard b c → IsHeard a c
heard_both a b c one two = record { later = later_both a b c one.later two.later; spare = two.spare ∙ one.spare }

pub all_same : (xs : List Sight) → AllHeard xs xs
all_same xs i s e = (s, e, heard_same s)

pub all_both : (xs ys zs : List Sight) → AllHeard xs ys → AllHeard ys zs → AllHeard xs zs
all_both xs ys zs one two i s e =
    let a = one i s e in
    let b = two i a.0 a.1 in
    (b.0, b.1, heard_both s a.0 b.0 a.2 b.2)

pub all_on : (xs ys zs : List Sight) → AllGoOn xs ys → AllGoOn ys zs → AllGoOn xs zs
all_on xs ys zs one two i s e =
    let a = one i s e in
    let b = two i a.0 a.1 in
    (b.0, b.1, later_both s a.0 b.0 a.2 b.2)

-- a caller that has heard more has seen more
pub heard_on : (xs ys : List Sight) → AllHeard xs ys → AllGoOn xs ys
heard_on xs ys heard i s e = let a = heard i s e in (a.0, a.1, a.2.later)

get_push : {X : Type 0} (xs ys : List X) (i : ℕ) (s : X) → slice_get xs i ≡ Some s → slice_get (xs ++ ys) i ≡ Some s
get_push [] ys i s e = absurd (none_some s e)
get_push (x ∷ xs) ys zero s e = e
get_push (x ∷ xs) ys (suc i) s e = get_push xs ys i s e

got_push : {X : Type 0} (xs : List X) (t : X) (i : ℕ) (s : X) → slice_get (xs ++ t ∷ []) i ≡ Some s → (slice_get xs i ≡ Some s) ⊎ ((i ≡ length xs) × (t ≡ s))
got_push [] t zero s e = inr (refl, some_is t s e)
got_push [] t (suc i) s e = absurd (none_some s e)
got_push (x ∷ xs) t zero s e = inl e
got_push (x ∷ xs) t (suc i) s e = ⊎_elim inl (λ (p : (i ≡ length xs) × (t ≡ s)). inr (ap suc p.0, p.1)) (got_push xs t i s e)

got_here : {X : Type 0} (xs : List X) (t : X) (rest : List X) → slice_get (xs ++ t ∷ rest) (length xs) ≡ Some t
got_here [] t rest = refl
got_here (x ∷ xs) t rest = got_here xs t rest

-- one table more is known
pub of_push : (cells : List ℕ) (xs : List Sight) (t : Sight) → IsOf cells xs → length xs < length cells → t.cell ≡ get_or cells (length xs) 0 → IsOf cells (xs ++ t ∷ [])
of_push cells xs t of room cell =
    let l = length-append xs (t ∷ []) in record {
      some = omega (arith, l);
      few = omega (arith, l, room);
      cells_are = λ i s e. ⊎_elim
          (λ (a : slice_get xs i ≡ Some s). of.cells_are i s a)
          (λ (p : (i ≡ length xs) × (t ≡ s)). ap (λ (u : Sight). u.cell) (sym p.1) ∙ (cell ∙ ap (λ k. get_or cells k 0) (sym p.0)))
          (got_push xs t i s e);
    }

pub heard_push : (xs : List Sight) (t : Sight) → AllHeard xs (xs ++ t ∷ [])
heard_push xs t i s e = (s, get_push xs (t ∷ []) i s e, heard_same s)

get_set : (xs : List Sight) (i j : ℕ) (t u : Sight) → slice_get (set xs i t) j ≡ Some u → ((j ≡ i) × (t ≡ u)) ⊎ (slice_get xs j ≡ Some u)
get_set [] i j t u e = inr e
get_set (x ∷ xs) zero zero t u e = inl (refl, some_is t u e)
get_set (x ∷ xs) zero (suc j) t u e = inr e
get_set (x ∷ xs) (suc i) zero t u e = inr e
get_set (x ∷ xs) (suc i) (suc j) t u e = ⊎_elim (λ (p : (j ≡ i) × (t ≡ u)). inl (ap suc p.0, p.1)) inr (get_set xs i j t u e)

pub set_here : (xs : List Sight) (i : ℕ) (t : Sight) → i < length xs → slice_get (set xs i t) i ≡ Some t
set_here xs i t within =
    let l = length-set xs i t in
    slice_get-get_or (set xs i t) i t (omega (arith, l)) ∙ ap Some (get_or-set_same xs i t t within)

set_else : (xs : List Sight) (i j : ℕ) (t : Sight) → j ≢ i → slice_get (set xs i t) j ≡ slice_get xs j
set_else [] i j t apart = refl
set_else (x ∷ xs) zero zero t apart = absurd (apart refl)
set_else (x ∷ xs) zero (suc j) t apart = refl
set_else (x ∷ xs) (suc i) zero t apart = refl
set_else (x ∷ xs) (suc i) (suc j) t apart = set_else xs i j t (λ e. apart (ap suc e))

pub of_set : (cells : List ℕ) (xs : List Sight) (i : ℕ) (s t : Sight) → IsOf cells xs → slice_get xs i ≡ Some s → IsLater s t → IsOf cells (set xs i t)
of_set cells xs i s t of is later =
    let l = length-set xs i t in
    let some = of.some in
    let few = of.few in record {
      some = omega (arith, l, some);
      few = omega (arith, l, few);
      cells_are = λ j u e. ⊎_elim
          (λ (p : (j ≡ i) × (t ≡ u)). ap (λ (v : Sight). v.cell) (sym p.1) ∙ (later.cell ∙ (of.cells_are i s is ∙ ap (λ k. get_or cells k 0) (sym p.0))))
          (λ (a : slice_get xs j ≡ Some u). of.cells_are j u a)
          (get_set xs i j t u e);
    }

pub heard_set : (xs : List Sight) (i : ℕ) (s t : Sight) → slice_get xs i ≡ Some s → IsHeard s t → AllHeard xs (set xs i t)
heard_set xs i s t is heard j u e = dite (ℕ_discrete j i)
    (λ same.
    let here : slice_get (set xs i t) j ≡ Some t = ap (slice_get (set xs i t)) same ∙ set_here xs i t (slice_get_within xs i s is) in
    let was : s ≡ u = some_is s u (sym is ∙ (ap (slice_get xs) (sym same) ∙ e)) in
    (t, here, subst (λ v. IsHeard v t) was heard))
    (λ apart. (u, set_else xs i j t apart ∙ e, heard_same u))

pub gone_on : (k at : ℕ) (xs ys : List Sight) → AllGoOn xs ys → IsGoneBefore k at xs → IsGoneBefore k at ys
gone_on k at xs ys on gone i below =
    let g = gone i below in
    let a = on i g.sight g.here in
    record { sight = a.0; here = a.1; gone = a.2.on.gone k g.gone }

pub gone_next : (k at : ℕ) (xs : List Sight) → IsGoneBefore k at xs → IsGoneHere k at xs → IsGoneBefore k (at + 1) xs
gone_next k at xs gone here i below = dite (ℕ_discrete i at)
    (λ same. record { sight = here.sight; here = ap (slice_get xs) same ∙ here.here; gone = here.gone })
    (λ apart. gone i (omega (arith, apart)))

pub gone_none : (k : ℕ) (xs : List Sight) → IsGoneBefore k 0 xs
gone_none k xs i below = absurd (omega arith)

pub within_on : (at : ℕ) (xs ys : List Sight) → AllGoOn xs ys → at < length xs → at < length ys
within_on at [] ys on within = absurd (omega arith)
within_on at (x ∷ xs) ys on within =
    let is = slice_get-get_or (x ∷ xs) at x within in
    let a = on at (get_or (x ∷ xs) at x) is in
    slice_get_within ys at a.0 a.1

pub length_on : (xs ys : List Sight) → AllGoOn xs ys → length xs ≤ length ys
length_on [] ys on = omega arith
length_on (x ∷ xs) ys on = let w = within_on (length xs) (x ∷ xs) ys on (omega arith) in omega (arith, w)

-- a call on one table, of which more is seen then
pub called_at : (so : FrontState → FrontState → Type 0) (at : ℕ) (xs : List Sight) (s t : Sight) → slice_get xs at ≡ Some s → IsLater s t → so s.front t.front → Called so at xs (set xs at t)
called_at so at xs s t was later is = record {
  between = xs;
  heard = all_same xs;
  before = s;
  after = t;
  at_before = was;
  at_after = set_here xs at t (slice_get_within xs at s was);
  later = later;
  is = is;
  rest = λ i apart. set_else xs at i t apart;
}

-- one that came after more was heard
pub called_on : (so : FrontState → FrontState → Type 0) (at : ℕ) (xs ys zs : List Sight) → AllHeard xs ys → Called so at ys zs → Called so at xs zs
called_on so at xs ys zs heard c = record { between = c.between; heard = all_both xs ys c.between heard c.heard; before = c.before; after = c.after; at_before = c.at_before; at_after = c.at_after; later = c.later; is = c.is; rest = c.rest }

-- one of which less is said
pub called_as : (so so2 : FrontState → FrontState → Type 0) (at : ℕ) (xs ys : List Sight) → ((b a : FrontState) → so b a → so2 b a) → Called so at xs ys → Called so2 at xs ys
called_as so so2 at xs ys f c = record { between = c.between; heard = c.heard; before = c.before; after = c.after; at_before = c.at_before; at_after = c.at_after; later = c.later; is = f c.before.front c.after.front c.is; rest = c.rest }

-- what it leaves of all sights
pub seen_called : (so : FrontState → FrontState → Type 0) (at : ℕ) (xs ys : List Sight) → Called so at xs ys → AllGoOn xs ys
seen_called so at xs ys c i s e =
    let a = c.heard i s e in
    dite (ℕ_discrete i at)
    (λ same.
    let is : a.0 ≡ c.before = some_is a.0 c.before (sym a.1 ∙ (ap (slice_get c.between) same ∙ c.at_before)) in
    (c.after, ap (slice_get ys) same ∙ c.at_after, later_both s c.before c.after (subst (IsLater s) is a.2.later) c.later))
    (λ apart. (a.0, c.rest i apart ∙ a.1, a.2.later))

-- and where the caller has its spare cell still, it has only heard more
pub heard_called : (so : FrontState → FrontState → Type 0) (at : ℕ) (xs ys : List Sight) (c : Called so at xs ys) → c.after.front.spare ≡ c.before.front.spare → AllHeard xs ys
heard_called so at xs ys c spare i s e =
    let a = c.heard i s e in
    dite (ℕ_discrete i at)
    (λ same.
    let is : a.0 ≡ c.before = some_is a.0 c.before (sym a.1 ∙ (ap (slice_get c.between) same ∙ c.at_before)) in
    (c.after, ap (slice_get ys) same ∙ c.at_after, heard_both s c.before c.after (subst (IsHeard s) is a.2) (record { later = c.later; spare = spare })))
    (λ apart. (a.0, c.rest i apart ∙ a.1, a.2))

-- what is of one of the chain's tables
pub token_at : (cells : List ℕ) (xs : List Sight) (t : TokenState) (s : Sight) → IsOf cells xs → slice_get xs t.table ≡ Some s → t.cell ≡ s.cell → IsTokenOf cells t
token_at cells xs t s of is cell =
    let here = slice_get_within xs t.table s is in
    let few = of.few in
    slice_get-get_or cells t.table 0 (omega (arith, here, few)) ∙ ap Some (sym (of.cells_are t.table s is) ∙ sym cell)

-- a call on one of the tables that are known
pub called_in : (so : FrontState → FrontState → Type 0) (at : ℕ) (old items : List Sight) (s t : Sight) → items ≡ old → at < length old → s ≡ get_or items at s → IsLater s t → so s.front t.front → Called so at old (set items at t)
called_in so at old items s t view within value later is =
    subst (λ l. Called so at l (set items at t)) view (called_at so at items s t (slice_get-get_or items at s (subst (λ l. at < length l) (sym view) within) ∙ ap Some (sym value)) later is)

-- a table whose slots are swept all
pub done_here : (k at : ℕ) (xs items : List Sight) (s : Sight) (b : Bool) → items ≡ xs → at < length xs → s ≡ get_or items at s → OnTrue b ((j : ℕ) → IsGone s.front j) → b ≡ true → IsGoneHere k at xs
done_here k at xs items s b view within value gone is =
    let all : (j : ℕ) → IsGone s.front j = subst (λ d. OnTrue d ((j : ℕ) → IsGone s.front j)) is gone in
    subst (IsGoneHere k at) view (record { sight = s; here = slice_get-get_or items at s (subst (λ l. at < length l) (sym view) within) ∙ ap Some (sym value); gone = all k })

-- one table more that is known, or none
pub heard_pushed : (b : Bool) (old items new : List Sight) (t : Sight) → items ≡ old → new ≡ (if b then items ++ t ∷ [] else items) → AllHeard old new
heard_pushed true old items new t view e = subst (AllHeard old) (sym e) (subst (λ l. AllHeard l (items ++ t ∷ [])) view (heard_push items t))
heard_pushed false old items new t view e = subst (AllHeard old) (sym e) (subst (λ l. AllHeard l items) view (all_same items))

pub gone_here_on : (k at : ℕ) (xs ys : List Sight) → AllHeard xs ys → IsGoneHere k at xs → IsGoneHere k at ys
gone_here_on k at xs ys heard g = let a = heard at g.sight g.here in record { sight = a.0; here = a.1; gone = a.2.later.on.gone k g.gone }

-- a call by a token, of a table that the caller knows
pub near_by : (so : FrontState → FrontState → Type 0) (at : ℕ) (group : GroupId) (old ys items : List Sight) (s t : Sight) → AllHeard old ys → items ≡ ys → at < length ys → s ≡ get_or items at s → s.front.group ≡ group → IsLater s t → so s.front t.front
    → CalledBy so at group old (set items at t)
near_by so at group old ys items s t heard view within value same later is =
    let inside = subst (λ l. at < length l) (sym view) within in
    let here = slice_get-get_or items at s inside ∙ ap Some (sym value) in record {
      between = items;
      heard = subst (AllHeard old) (sym view) heard;
      before = s.front;
      after = t.front;
      group_is = same;
      later = later.on;
      is = is;
      near = λ u e. (ap (λ (v : Sight). v.front) (some_is s u (sym here ∙ e)), t, set_here items at t inside, refl);
      rest = λ i apart. set_else items at i t apart;
    }

-- and of one that it does not
pub far_by : (so : FrontState → FrontState → Type 0) (at : ℕ) (group : GroupId) (old ys : List Sight) (b a : FrontState) → AllHeard old ys → length ys ≤ at → b.group ≡ group → GoesOn b a → so b a → CalledBy so at group old ys
far_by so at group old ys b a heard beyond same on is = record {
  between = ys;
  heard = heard;
  before = b;
  after = a;
  group_is = same;
  later = on;
  is = is;
  near = λ u e. let within = slice_get_within ys at u e in absurd (omega (arith, within, beyond));
  rest = λ i apart. refl;
}

-- one of which less is said
pub by_as : (so so2 : FrontState → FrontState → Type 0) (at : ℕ) (group : GroupId) (xs ys : List Sight) → ((b a : FrontState) → so b a → so2 b a) → CalledBy so at group xs ys → CalledBy so2 at group xs ys
by_as so so2 at group xs ys f c = record { between = c.between; heard = c.heard; before = c.before; after = c.after; group_is = c.group_is; later = c.later; is = f c.before c.after c.is; near = c.near; rest = c.rest }

-- more is heard of one of the tables that are known
pub heard_in : (at : ℕ) (old items : List Sight) (s t : Sight) → items ≡ old → at < length old → s ≡ get_or items at s → IsHeard s t → AllHeard old (set items at t)
heard_in at old items s t view within value heard =
    subst (λ l. AllHeard l (set items at t)) view (heard_set items at s t (slice_get-get_or items at s (subst (λ l. at < length l) (sym view) within) ∙ ap Some (sym value)) heard)

-- a sight that is there
sight_at : (xs : List Sight) (i : ℕ) → i < length xs → (s : Sight) × (slice_get xs i ≡ Some s)
sight_at [] i within = absurd (omega arith)
sight_at (x ∷ xs) zero within = (x, refl)
sight_at (x ∷ xs) (suc i) within = sight_at xs i (omega arith)

-- what was told of the next table
pub told_next : (xs : List Sight) (items : List ToldState) (at : ℕ) (t : ToldState) → length items ≡ at → ((s : Sight) → slice_get xs at ≡ Some s → t ≡ told_of s)
    → ((i : ℕ) (s : Sight) → i < at → slice_get xs i ≡ Some s → slice_get items i ≡ Some (told_of s)) → (i : ℕ) (s : Sight) → i < at + 1 → slice_get xs i ≡ Some s → slice_get (items ++ t ∷ []) i ≡ Some (told_of s)
told_next xs items at t count is before i s below e = dite (ℕ_discrete i at)
    (λ same. ap (slice_get (items ++ t ∷ [])) (same ∙ sym count) ∙ (got_here items t [] ∙ ap Some (is s (ap (slice_get xs) (sym same) ∙ e))))
    (λ apart. get_push items (t ∷ []) i (told_of s) (before i s (omega (arith, apart)) e))

-- a note that tells of all
pub note_of_all : (xs : List Sight) (items : List ToldState) → length items ≡ length xs → ((i : ℕ) (s : Sight) → i < length xs → slice_get xs i ≡ Some s → slice_get items i ≡ Some (told_of s)) → IsNoteOf xs items
note_of_all xs items count tells = record { count = count; tells = λ i s e. tells i s (slice_get_within xs i s e) e }

-- it is of the chain whose tables the sights are of
pub note_is_of : (cells : List ℕ) (xs : List Sight) (note : List ToldState) → IsOf cells xs → IsNoteOf xs note → IsToldOf cells note
note_is_of cells xs note of is i t e =
    let within = slice_get_within note i t e in
    let count = is.count in
    let few = of.few in
    let s = sight_at xs i (omega (arith, within, count)) in
    let same : told_of s.0 ≡ t = some_is (told_of s.0) t (sym (is.tells i s.0 s.1) ∙ e) in
    slice_get-get_or cells i 0 (omega (arith, within, count, few)) ∙ ap Some (sym (of.cells_are i s.0 s.1) ∙ ap (λ (u : ToldState). u.cell) same)

-- what is heard of one table more
heard_longer : (t : ToldState) (s u : Sight) → HasHeard t s → IsHeard s u → HasHeard t u
heard_longer t s u h on =
    let one = h.seen in
    let two = on.later.on.seen in record {
      seen = (one.0 ++ two.0, two.1 ∙ (ap (λ l. l ++ two.0) one.1 ∙ append_assoc t.seen.seen one.0 two.0));
      known = knows_both t.known s.known u.known h.known on.later.ages;
    }

pub learned_next : (note : List ToldState) (t : ToldState) (ys zs : List Sight) → HasLearned note ys → AllHeard ys zs → length note < length zs → ((s : Sight) → slice_get zs (length note) ≡ Some s → HasHeard t s) → HasLearned (note ++ t ∷ []) zs
learned_next note t ys zs learned heard within told i u e = ⊎_elim
    (λ (was : slice_get note i ≡ Some u).
    let a = learned i u was in
    let b = heard i a.0 a.1 in
    (b.0, b.1, heard_longer u a.0 b.0 a.2 b.2))
    (λ (last : (i ≡ length note) × (t ≡ u)).
    let s = sight_at zs (length note) within in
    (s.0, ap (slice_get zs) last.0 ∙ s.1, subst (λ (v : ToldState). HasHeard v s.0) last.1 (told s.0 s.1)))
    (got_push note t i u e)

-- what was told of this table
pub cell_told : (cells : List ℕ) (note before rest : List ToldState) (t : ToldState) → IsToldOf cells note → before ++ t ∷ rest ≡ note → slice_get cells (length before) ≡ Some t.cell
cell_told cells note before rest t of split = of (length before) t (ap (λ l. slice_get l (length before)) (sym split) ∙ got_here before t rest)

pub told_at : (t : ToldState) (at : ℕ) (old items : List Sight) (u : Sight) → items ≡ old → at < length old → HasHeard t u → (s : Sight) → slice_get (set items at u) at ≡ Some s → HasHeard t s
told_at t at old items u view within told s e =
    subst (HasHeard t) (some_is u s (sym (set_here items at u (subst (λ l. at < length l) (sym view) within)) ∙ e)) told

-- more is seen of one of the chain's tables
pub of_in : (cells : List ℕ) (at : ℕ) (old items : List Sight) (s t : Sight) → items ≡ old → at < length old → s ≡ get_or items at s → IsOf cells old → IsLater s t → IsOf cells (set items at t)
of_in cells at old items s t view within value of later =
    let here = slice_get-get_or items at s (subst (λ l. at < length l) (sym view) within) ∙ ap Some (sym value) in
    of_set cells items at s t (subst (IsOf cells) (sym view) of) here later
