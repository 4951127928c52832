-- what a fill settles its calls with
use Rattle.std.proofs.Common.{◌≡◌, ℕ, List, [], ◌∷◌, ◌++◌, Option, Some, None, Result, ap, ◌∙◌, append_assoc}
use Rattle.sf_history.specs.declared.call.CallId.{CallId}
use Rattle.sf_history.specs.declared.event.Event.{Event}
use Rattle.sf_history.specs.declared.event.Event.TheVariants.{Lead}
use Rattle.sf_loaders.specs.declared.faults.LocalFault.{LocalFault}
use Rattle.sf_fill_keys.specs.declared.spot.Spot.{Spot}
use Rattle.sf_fill_keys.specs.declared.spot.Spot.TheVariants.{Directory, Hashed}
use Rattle.sf_fill_keys.specs.Spots.{spot_place}
use Rattle.sf_fill_values.specs.Rooted.{IsRooted}

-- a value: the key with its place, the call whose run loaded the bytes, and the bytes or the fault
pub record Filled : Type 0 where
  pub spot : Spot
  pub root : CallId
  pub result : Result (List ℕ) LocalFault

-- the key's bytes, where the spot has them itself
abbrev pub own_key : Spot → Option (List ℕ)
own_key (Directory place) = None
own_key (Hashed hashed) = Some hashed.key

-- the value is of the call's place, and the call is rooted in the one whose run loaded the bytes
abbrev pub FitsFill : ℕ → CallId → Filled → List (Event ℕ Filled) → Type 0
FitsFill k call v h = (spot_place v.spot ≡ k) × IsRooted k v.root call h

pub fill_lasts : (k : ℕ) (call : CallId) (v : Filled) (h more : List (Event ℕ Filled)) → FitsFill k call v h → FitsFill k call v (h ++ more)
fill_lasts k call v h more f =
    let was = f.1 in
    let led : h ≡ (was.before ++ Lead was.by k call was.own ∷ []) ++ was.led.0 = was.led.1 in (
      f.0,
      record {
        before = was.before;
        by = was.by;
        own = was.own;
        led = (was.led.0 ++ more, ap (λ l. l ++ more) led ∙ append_assoc (was.before ++ Lead was.by k call was.own ∷ []) was.led.0 more);
        root_led = was.root_led;
      },
    )
