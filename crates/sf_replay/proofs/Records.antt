-- a JSON value beside the items and members that it stands for
use Rattle.std.proofs.Common.{◌≡◌, ℕ, ◌==◌, ◌<◌, ◌≤◌, List, [], ◌∷◌, length, Some, None, option_and_then, refl, sym, ◌∙◌, ap, arith, false, String, Global}
use Rattle.serde_json.specs.Data.{Data, Items}
use Rattle.serde_json.specs.Find.{as_array, as_object}
use Rattle.serde_json.specs.Events.{members_len}
use Rattle.serde_json.specs.View.{items_view, members_view}
use Rattle.serde_json.specs.declared.value.Value.{Value}
use Rattle.serde_json.proofs.Views.{members_len-members_view}
use Rattle.std.specs.Option.{option_map_or}
use Rattle.sf_replay.specs.Record.{call_in, call_of_items, interval_in, interval_of_items, has_names}

-- an array of fewer or more than two items is no call
pub short_items : (vs : List Value) → length vs < 2 → call_of_items (items_view vs) ≡ None
short_items [] few = refl
short_items (v ∷ []) few = refl
short_items (v ∷ w ∷ vs) few = absurd (omega arith)

pub long_items : (vs : List Value) → 3 ≤ length vs → call_of_items (items_view vs) ≡ None
long_items [] many = refl
long_items (v ∷ []) many = refl
long_items (v ∷ w ∷ []) many = absurd (omega arith)
long_items (v ∷ w ∷ u ∷ vs) many = refl

pub no_call : (d : Data) (items : Items) → Some items ≡ as_array d → call_of_items items ≡ None → None ≡ call_in d
no_call d items is none = sym none ∙ ap (option_and_then call_of_items) is

-- nor is it a time
pub short_times : (vs : List Value) → length vs < 2 → interval_of_items (items_view vs) ≡ None
short_times [] few = refl
short_times (v ∷ []) few = refl
short_times (v ∷ w ∷ vs) few = absurd (omega arith)

pub long_times : (vs : List Value) → 3 ≤ length vs → interval_of_items (items_view vs) ≡ None
long_times [] many = refl
long_times (v ∷ []) many = refl
long_times (v ∷ w ∷ []) many = absurd (omega arith)
long_times (v ∷ w ∷ u ∷ vs) many = refl

pub no_time : (d : Data) (items : Items) → Some items ≡ as_array d → interval_of_items items ≡ None → None ≡ interval_in d
no_time d items is none = sym none ∙ ap (option_and_then interval_of_items) is

pub names_counted : (d : Data) (es : List (String Global × Value)) (n count : ℕ) → Some (members_view es) ≡ as_object d → count ≡ length es → (count == n) ≡ has_names n d
names_counted d es n count is counted =
    ap (λ m. m == n) (counted ∙ sym (members_len-members_view es)) ∙ ap (λ o. option_map_or (λ names. members_len names == n) o false) is
