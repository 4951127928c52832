-- What a seat knows of the words lasts, whatever step others make.
use Rattle.std.proofs.Common.{◌≡◌, ℕ, true, false, refl, sym, ◌∙◌, ap}
use Rattle.std.proofs.lemmas.Bool.{true≢false}
use mathlib.Core.Logic.{dite}
use native.Mathlib.Decide.{ℕ_discrete}
use Rattle.sf_lists.proofs.Functions.{put_cases}
use Rattle.sf_keyed_laws.specs.Words.{Layout, Words, IsLedIfAny, Keeps}
use Rattle.sf_keyed_laws.specs.Steps.{Step, leads, sets_aside, closes, seals, after}
use Rattle.sf_keyed_laws.proofs.Walking.{walks_last, others_last, sealed_lasts, set_aside_lasts, steps_keep, led_more, still_open}
use Rattle.sf_keyed_words.specs.declared.rule.KeyedSizes.{KeyedSizes}
use Rattle.sf_keyed_words.specs.declared.rule.View.{View}
use Rattle.sf_keyed_words.specs.Rule.{layout_of, IsLook, IsWalk}

pub any_lasts : (y : Layout) (s : Words) (m : Step y s) (x : ℕ) → IsLedIfAny s x → IsLedIfAny (after y s m) x
any_lasts y s (leads n k c b h) x any some = led_more s n x any some
any_lasts y s (sets_aside w d c h) x any some = any some
any_lasts y s (closes c h) x any some = any some
any_lasts y s (seals p) x any some = any some

pub led_lasts : (y : Layout) (s : Words) (m : Step y s) (x : ℕ) → s.led x ≡ true → (after y s m).led x ≡ true
led_lasts y s (leads n k c b h) x led = put_cases (λ b. b ≡ true) s.led n true x (λ is. refl) (λ isnt. led)
led_lasts y s (sets_aside w d c h) x led = led
led_lasts y s (closes c h) x led = led
led_lasts y s (seals p) x led = led

was_live : (y : Layout) (s : Words) (m : Step y s) (x : ℕ) → (after y s m).closed x ≡ false → s.closed x ≡ false
was_live y s (leads n k c b h) x live = live
was_live y s (sets_aside w d c h) x live = live
was_live y s (closes c h) x live = still_open s c x live
was_live y s (seals p) x live = live

pub look_lasts : (z : KeyedSizes) (s : Words) (m : Step (layout_of z) s) (v : View) → Keeps (layout_of z) s → IsLook z s v → IsLook z (after (layout_of z) s m) v
look_lasts z s m v keeps look = let y = layout_of z in record {
  top = any_lasts y s m v.top look.top;
  but = any_lasts y s m v.but look.but;
  clear = λ yes k unmet. others_last y s m k v.but look.but keeps (look.clear yes k unmet);
  dead = λ yes k. others_last y s m k v.but look.but keeps (look.dead yes k);
  half = λ yes k isnt. others_last y s m k v.but look.but keeps (look.half yes k isnt);
  told = λ yes k isnt. others_last y s m k v.but look.but keeps (look.told yes k isnt);
  gone = λ k is. let g = look.gone k is in let l = sealed_lasts y s m k g.sealed g.none in record { sizes = g.sizes; sealed = l.0; none = l.1 };
}

pub walk_lasts : (z : KeyedSizes) (s : Words) (m : Step (layout_of z) s) (v : View) → Keeps (layout_of z) s → IsLook z s v → IsWalk z s v → IsWalk z (after (layout_of z) s m) v
walk_lasts z s m v keeps look walk =
    let y = layout_of z in
    record {
      walked = λ k slot unmet. walks_last y s m k v.top v.but v.looked keeps look.top (walk.walked k slot unmet);
      other = λ yes k unmet. others_last y s m k v.top look.top keeps (walk.other yes k unmet);
      saved = λ yes led live. dite (ℕ_discrete v.top 0)
          (λ none. absurd (true≢false (sym led ∙ (ap (after y s m).led none ∙ (steps_keep y s m keeps).none))))
          (λ some. let was : s.led v.top ≡ true = look.top some in
          set_aside_lasts y s m v.slot v.top keeps was live (walk.saved yes was (was_live y s m v.top live)));
    }
