-- What a call's steps say of the desks and places that contracts see.
use Rattle.std.proofs.Common.{◌≡◌, ◌≢◌, ℕ, zero, suc, ◌+◌, ◌<◌, ◌≤◌, inl, inr, ⊎_elim, cond, eqb, eq-eqb, ne_eqb, List, [], ◌∷◌, ◌++◌, length, get_or, refl, sym, ap, ◌∙◌, subst, Some, arith}
use mathlib.Core.Logic.{dite}
use native.Mathlib.Decide.{ℕ_discrete}
use Rattle.std.specs.List.{Contains}
use Rattle.std.proofs.lemmas.List.{append-nil}
use Rattle.atomic_table.specs.Seated.{TableId}
use Rattle.sf_dir.specs.declared.rule.DirectorySizes.{DirectorySizes}
use Rattle.sf_dir.specs.declared.rule.Entry.{Entry}
use Rattle.sf_dir.specs.declared.rule.View.{View}
use Rattle.sf_dir.specs.Names.{Name, BeginsWith, AddsNone, Finds, IsFullFor, names_by}
use Rattle.sf_dir.specs.Rule.{name_of, names_of, own_names, IsNamed, IsTaken, IsSound, AllHeard, both_of}
use Rattle.sf_dir.specs.Plays.{Grows}
use Rattle.sf_dir.specs.Walk.{Resolves}
use Rattle.sf_dir.specs.Known.{DirectoryId, directory_of, sizes_of, Learns, IsPlace, key_at}
use Rattle.sf_dir.proofs.Elements.{Contains-map, names_append, own_append, named_longer}
use Rattle.sf_dir.proofs.Publishing.{one_key}

-- a seat of this directory
pub same_directory : (s t : TableId) (y z : DirectorySizes) → directory_of s y ≡ directory_of t z → (s ≡ t) × (y ≡ z)
same_directory s t y z e = (ap (λ (d : DirectoryId). d.table) e, ap (λ (d : DirectoryId). record { keys = d.keys; key_bytes = d.key_bytes; desks = d.desks; seed0 = d.seed0; seed1 = d.seed1 }) e)

own_same : (n : ℕ) (v w : View) → v.from ≡ n → v.to ≡ n + 1 → (added : List Name) → Grows v w added → names_by n (names_of w.seen) ≡ names_by n (names_of v.seen) ++ added
own_same n v w from to added g = ap (own_names n) g.seen ∙ (own_append n v.seen g.more ∙ ap (λ q. own_names n v.seen ++ q) (g.own n (omega arith, omega arith)))

begins : (v w : View) (added : List Name) → Grows v w added → BeginsWith (names_of w.seen) (names_of v.seen)
begins v w added g = (names_of g.more, ap names_of g.seen ∙ names_append v.seen g.more)

pub adds_none : (n : ℕ) (v w : View) → v.from ≡ n → v.to ≡ n + 1 → Grows v w [] → AddsNone n (names_of v.seen) (names_of w.seen)
adds_none n v w from to g = record { begins = begins v w [] g; own = own_same n v w from to [] g ∙ append-nil (names_by n (names_of v.seen)) }

pub finds : (n : ℕ) (v w : View) (place : ℕ) (key : List ℕ) → v.from ≡ n → v.to ≡ n + 1 → Resolves v w place key → Finds n (names_of v.seen) (names_of w.seen) place key
finds n v w place key from to r =
    let e : Entry = r.entry in
    let name : name_of e ≡ record { place = place; key = key; by = e.by } = ap (λ p. record { place = p; key = e.key; by = e.by }) r.place_is ∙ ap (λ k. record { place = place; key = k; by = e.by }) r.key_is in
    record {
      begins = ⊎_elim (λ (g : Grows v w []). begins v w [] g) (λ (g : (e.by ≡ v.from) × Grows v w (name_of e ∷ [])). begins v w _ g.1) r.grows;
      by = e.by;
      stands = subst (Contains (names_of w.seen)) name (Contains-map name_of w.seen e r.stands);
      own = ⊎_elim
          (λ (g : Grows v w []). inl (own_same n v w from to [] g ∙ append-nil (names_by n (names_of v.seen))))
          (λ (g : (e.by ≡ v.from) × Grows v w (name_of e ∷ [])). inr (g.0 ∙ from, own_same n v w from to _ g.1 ∙ ap (λ q. names_by n (names_of v.seen) ++ q ∷ []) name))
          r.grows;
    }

pub is_full : (keys : ℕ) (key : List ℕ) (h : List Entry) → ((place : ℕ) → 1 ≤ place → place ≤ keys → IsTaken h place key) → IsFullFor keys key (names_of h)
is_full keys key h taken place low high = let t = taken place low high in (name_of (t.0), Contains-map name_of h (t.0) t.1, t.2, t.3)

-- a name that does not stand first stands behind
named_rest : (e : Entry) (h : List Entry) (place : ℕ) → IsNamed (e ∷ h) place → e.place ≢ place → IsNamed h place
named_rest e h place n d = at (n.0) (n.1.0) n.1.1 n.1.2 n.2
  where
    at : (x : Entry) (k : ℕ) → k < length (e ∷ h) → get_or (e ∷ h) k x ≡ x → x.place ≡ place → IsNamed h place
    at x zero lt is there = absurd (d (ap (λ (q : Entry). q.place) is ∙ there))
    at x (suc k) lt is there = (x, (k, omega arith, is), there)

-- the key at a named place stays
pub key_at_longer : (h more : List Entry) (place : ℕ) → IsNamed h place → key_at (h ++ more) place ≡ key_at h place
key_at_longer [] more place n = let lt = n.1.1 in absurd (omega arith)
key_at_longer (e ∷ h) more place n = dite (ℕ_discrete e.place place)
    (λ is. ap (λ b. cond b e.key (key_at (h ++ more) place)) (eq-eqb e.place place is) ∙ sym (ap (λ b. cond b e.key (key_at h place)) (eq-eqb e.place place is)))
    (λ d. ap (λ k. cond (eqb e.place place) e.key k) (key_at_longer h more place (named_rest e h place n d)))

-- the first entry at a named place
first_at : (h : List Entry) (place : ℕ) → IsNamed h place → (e : Entry) × Contains h e × (e.place ≡ place) × (key_at h place ≡ e.key)
first_at [] place n = let lt = n.1.1 in absurd (omega arith)
first_at (e ∷ h) place n = dite (ℕ_discrete e.place place)
    (λ is. (e, (0, omega arith, refl), is, ap (λ b. cond b e.key (key_at h place)) (eq-eqb e.place place is)))
    (λ d. let f = first_at h place (named_rest e h place n d) in let lt = f.1.1 in (f.0, (suc (f.1.0), omega arith, f.1.2), f.2, ap (λ b. cond b e.key (key_at h place)) (ne_eqb e.place place d) ∙ f.3))

-- of a sound list, it is the key of each entry there
pub key_at_is : (z : DirectorySizes) (h : List Entry) (e : Entry) (place : ℕ) → IsSound z h → Contains h e → e.place ≡ place → key_at h place ≡ e.key
key_at_is z h e place sound c is = let f = first_at h place (e, c, is) in f.3 ∙ one_key z h (f.0) e sound f.1 c (f.2 ∙ sym is)

pub resolves_sound : (z : DirectorySizes) (v w : View) (place : ℕ) (key : List ℕ) → v.sizes ≡ Some z → Resolves v w place key → IsSound z w.seen
resolves_sound z v w place key sizes r = ⊎_elim (λ (g : Grows v w []). g.sound z sizes) (λ (g : (r.entry.by ≡ v.from) × Grows v w (name_of r.entry ∷ [])). g.1.sound z sizes) r.grows

pub resolved_key : (z : DirectorySizes) (v w : View) (place number : ℕ) (key : List ℕ) → v.sizes ≡ Some z → Resolves v w place key → number ≡ place → key_at w.seen number ≡ key
resolved_key z v w place number key sizes r is = key_at_is z w.seen r.entry number (resolves_sound z v w place key sizes r) r.stands (r.place_is ∙ sym is) ∙ r.key_is

-- a desk that was told what another had seen, after its look
pub learns : (s t : TableId) (n : ℕ) (v u w : View) → t ≡ s → v.sizes ≡ Some (sizes_of v) → v.from ≡ n → v.to ≡ n + 1 → v.told ≡ [] → Grows (both_of v u) w []
    → Learns (record { directory = directory_of s (sizes_of v); number = n; seen = names_of v.seen }) (record { directory = directory_of t (sizes_of w); number = n; seen = names_of w.seen }) (names_of u.seen)
learns s t n v u w table sizes from to told g =
    let heard = g.heard.0 in
    let plain : Grows v w [] = record { sizes = g.sizes; from = g.from; to = g.to; told = g.told; more = g.more; seen = g.seen; own = g.own; heard = subst (AllHeard w.seen) (sym told) tt; sound = g.sound } in
    record {
      names = (g.sound (sizes_of v) sizes).names;
      adds = adds_none n v w from to plain;
      begins = (names_of (heard.0), ap names_of heard.1 ∙ names_append u.seen (heard.0));
    }

-- a place's seat after it was told what another had seen, and looked
pub place_later : (number : ℕ) (v u w : View) → IsPlace number v → Grows (both_of v u) w [] → IsPlace number w
place_later number v u w p g =
    let sizes : w.sizes ≡ Some (sizes_of v) = g.sizes ∙ p.sizes in
    let same : sizes_of w ≡ sizes_of v = ap (λ o. sizes_of (record w { sizes = o })) g.sizes in
    record {
      sizes = sizes ∙ ap (λ z. Some z) (sym same);
      told = g.told;
      named = subst (λ h. IsNamed h number) (sym g.seen) (named_longer v.seen g.more number p.named);
      sound = subst (λ z. IsSound z w.seen) (sym same) (g.sound (sizes_of v) p.sizes);
    }

pub directory_later : (s t : TableId) (v u w : View) → t ≡ s → Grows (both_of v u) w [] → directory_of s (sizes_of v) ≡ directory_of t (sizes_of w)
directory_later s t v u w table g = ap (λ q. directory_of q (sizes_of v)) (sym table) ∙ ap (λ o. directory_of t (sizes_of (record v { sizes = o }))) (sym g.sizes)

-- what it says of the key stays, and is what the other says
pub key_kept : (number : ℕ) (v u w : View) → IsPlace number v → Grows (both_of v u) w [] → key_at w.seen number ≡ key_at v.seen number
key_kept number v u w p g = ap (λ h. key_at h number) g.seen ∙ key_at_longer v.seen g.more number p.named

pub key_told : (number : ℕ) (v u w : View) → IsNamed u.seen number → Grows (both_of v u) w [] → key_at w.seen number ≡ key_at u.seen number
key_told number v u w named g = let heard = g.heard.0 in ap (λ h. key_at h number) heard.1 ∙ key_at_longer u.seen (heard.0) number named
