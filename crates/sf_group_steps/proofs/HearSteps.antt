-- loads that are no turns, by seats that took others in
use Rattle.std.proofs.Common.{◌≡◌, ℕ, arith, List, [], ◌∷◌, ◌++◌, refl, sym, ap, ◌∙◌, subst, append_assoc}
use Rattle.std.proofs.lemmas.List.{append-nil}
use Rattle.sf_steps_laws.specs.declared.operation.Stage.{Stage}
use Rattle.sf_steps_laws.specs.declared.turn.Turn.{Turn}
use Rattle.sf_steps_laws.proofs.Named.{IsAlone}
use Rattle.sf_group_rows.specs.declared.sizes.Sizes.{Sizes}
use Rattle.sf_group_steps.specs.declared.view.View.{View}
use Rattle.sf_group_steps.specs.Words.{Word}
use Rattle.sf_group_steps.specs.View.{Has, AreApart, claim, callers_of, all_of, note_of, both_of, world_of}
use Rattle.sf_group_steps.specs.Plays.{AreLater, Comes, Moves, Made}
use Rattle.sf_group_steps.specs.Hears.{HasHeard}
use Rattle.sf_group_steps.proofs.Keeps.{has_left, has_right}
use Rattle.sf_group_steps.specs.Stands.{Sits, Goes}
use Rattle.sf_group_steps.proofs.Ways.{writes_none, stands, goes_by}

apart_left : (xs ys : List ℕ) → AreApart (xs ++ ys) → AreApart xs
apart_left [] ys p = tt
apart_left (x ∷ xs) ys p = ((λ g. p.0 (has_left xs ys x g)), apart_left xs ys p.1)

apart_right : (xs ys : List ℕ) → AreApart (xs ++ ys) → AreApart ys
apart_right [] ys p = p
apart_right (x ∷ xs) ys p = apart_right xs ys p.1

module _ {V : Type 0} where
  -- a load that is no turn
  pub still_move : (z : Sizes) (v : View V) (x : Word) → v.cells ≡ [] → Moves z v x (λ n. n) (λ _. [])
  still_move z v x none = (none, λ s comes n found small. (tt, tt, writes_none z.callers (world_of z s) (world_of z s) x n found refl refl refl, refl))

  pub both_callers : (v w : View V) → v.told ≡ [] → all_of (both_of v w) ≡ all_of v ++ all_of w
  both_callers v w told =
      ap (λ q. v.known.callers ++ callers_of (q ++ w.known ∷ w.told)) told
      ∙ (sym (append_assoc v.known.callers [] (all_of w)) ∙ ap (λ q. (v.known.callers ++ callers_of q) ++ all_of w) (sym told))

  -- what came to both came to each
  pub comes_left : (z : Sizes) (v w : View V) (s : List (Turn V)) → v.told ≡ [] → Comes z (both_of v w) s → Comes z v s
  comes_left z v w s told c = record {
    schedule = c.schedule;
    lawful = c.lawful;
    numbered = λ a g. c.numbered a (subst (λ q. Has q a) (sym (both_callers v w told)) (has_left (all_of v) (all_of w) a g));
    later = record { between = c.later.between; turns = c.later.turns; others = c.later.others };
    apart = apart_left (all_of v) (all_of w) (subst AreApart (both_callers v w told) c.apart);
    heard = subst (λ q. AreLater q s) (sym told) tt;
  }

  pub comes_right : (z : Sizes) (v w : View V) (s : List (Turn V)) → v.told ≡ [] → Comes z (both_of v w) s → Comes z w s
  comes_right z v w s told c =
      let brought = subst (λ q. AreLater (q ++ w.known ∷ w.told) s) told c.heard in
      record {
        schedule = c.schedule;
        lawful = c.lawful;
        numbered = λ a g. c.numbered a (subst (λ q. Has q a) (sym (both_callers v w told)) (has_right (all_of v) (all_of w) a g));
        later = brought.0;
        apart = apart_right (all_of v) (all_of w) (subst AreApart (both_callers v w told) c.apart);
        heard = brought.1;
      }

  -- a seat that took in a note
  pub has_heard : (z : Sizes) (v n w : View V) → v.told ≡ [] → Made z (both_of v (note_of n)) w [] → HasHeard z v n.known.turns w
  has_heard z v n w told m =
      let right = comes_right z v (note_of n) m.before told m.comes in
      let callers : all_of (both_of v (note_of n)) ≡ all_of v = both_callers v (note_of n) told ∙ append-nil (all_of v) in
      let turns_is : w.known.turns ≡ m.before = ap (λ (y : View V). y.known.turns) m.view ∙ append-nil m.before in
      record {
        made = record { before = m.before; comes = comes_left z v (note_of n) m.before told m.comes; whole = m.whole; view = m.view ∙ ap (λ q. of q (m.before ++ [])) callers };
        begins = (right.later.between, turns_is ∙ right.later.turns);
      }
    where
      of : List ℕ → List (Turn V) → View V
      of who s = record { sizes = v.sizes; known = claim who s; told = []; cells = [] }

  -- who made no turns stands where it stood
  pub heard_goes : (z : Sizes) (a : ℕ) (v w : View V) (p : Stage V) → Sits z a v p → IsAlone p → Made z v w [] → Goes z a v w p [] 0
  heard_goes z a v w p sits alone m = goes_by z a v w p p [] (world_of z m.before) [] [] 0 sits alone m (record { allowed = tt; world = refl; events = refl }) (stands z a v p m.before sits alone m.comes) refl (omega arith)
