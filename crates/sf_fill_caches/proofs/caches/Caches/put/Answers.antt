use Rattle.std.proofs.Common.{ℕ, ◌<◌, ◌^◌, nat_eq, sym, ap, ◌∙◌, arith, rules}
use Rattle.sf_fill_caches.proofs.Trims.{weight_of-remove}
use Rattle.sf_fill_caches.proofs.caches.Caches.put.Goals.{in-Main+in_ok-put-in-Main, in-Hot+in_ok-put-in-Hot}
use Rattle.sf_fill_caches.proofs.caches.Caches.put.Goals as goal

pub trim-requires : goal.trim-requires
trim-requires g c =
    let kept = c.self.invariant.0 in let main = c.self.inside.main.entries in let hot = c.self.inside.hot.entries in
    let key = c.ranges.key_len.fits in let value = c.ranges.value_len.fits in
    let limit : c.self.inside.limit < 2 ^ 64 = search rules in
    elim c.match-which.branch [
      | in-Main+in_ok-put-in-Main w ↦ let is = w.in_ok-put-in-Main.ensures.put in rw (w.main-is, w.hot-is, is) (omega (arith, kept, key, value, limit, weight_of-remove (nat_eq c.args.place) main))
      | in-Hot+in_ok-put-in-Hot w ↦ let is = w.in_ok-put-in-Hot.ensures.put in rw (w.main-is, w.hot-is, is) (omega (arith, kept, key, value, limit, weight_of-remove (nat_eq c.args.place) hot))
    ]

pub invariant_of-self-2 : goal.invariant_of-self-2
invariant_of-self-2 g c = (
  c.trim.ensures.within,
  elim c.match-which.branch [
    | in-Main+in_ok-put-in-Main w ↦ let is = w.in_ok-put-in-Main.ensures.put in c.trim.ensures.caps.1 ∙ ap (λ s. s.cap) w.hot-is ∙ c.self.invariant.1 ∙ sym (c.trim.ensures.caps.0 ∙ ap (λ s. s.cap) (w.main-is ∙ is))
    | in-Hot+in_ok-put-in-Hot w ↦ let is = w.in_ok-put-in-Hot.ensures.put in c.trim.ensures.caps.1 ∙ ap (λ s. s.cap) (w.hot-is ∙ is) ∙ c.self.invariant.1 ∙ sym (c.trim.ensures.caps.0 ∙ ap (λ s. s.cap) w.main-is)
  ],
)
