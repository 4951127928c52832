-- what a get answers by what it comes to
use Rattle.std.specs.Prelude.{◌≡◌, ℕ, List, Err}
use Rattle.sf_group_rows.specs.declared.outcomes.Finished.TheVariants.{Done, Held}
use Rattle.sf_fill_keys.specs.Spots.{MayBe}
use Rattle.sf_fill_values.specs.declared.fault.LoadFault.TheVariants as fault
use Rattle.sf_fill_values.specs.declared.fault.GetRefusal.TheVariants as refused
use Rattle.sf_fill_values.specs.Answers.{GetAnswer, answer_in}
use Rattle.sf_fill_values.specs.FillValue.{Filled}
use Rattle.sf_fill_counters.specs.declared.totals.GetCounts.{GetCounts}
use Rattle.sf_fill_counters.specs.GetCounts.{hit_counts, load_counts, get_alone, no_run}
use Rattle.sf_fill_store.specs.declared.standing.Standing.{Standing}
use Rattle.sf_fill_store.specs.declared.standing.Standing.TheVariants.{Free, Owing}
use Rattle.sf_fill_store.specs.Found.{Found, FromCache, Uncopied, Unmade, Spent, Joined, Led}

-- where the caller then stands, what is counted, and what is answered
abbrev pub Reply : Type 0
Reply = Standing Filled × GetCounts × GetAnswer

abbrev pub reply_of : Found → Reply
reply_of (FromCache c l) = (Free c, hit_counts, answer_in l)
reply_of (Uncopied c) = (Free c, hit_counts, Err fault.Memory)
reply_of (Unmade c) = (Free c, get_alone, Err fault.Memory)
reply_of (Spent c) = (Free c, load_counts no_run, Err (fault.Refused refused.Spent))
reply_of (Joined c l) = (Free c, load_counts no_run, answer_in l)
reply_of (Led (Done c l) n) = (Free c, n, answer_in l)
reply_of (Led (Held s) n) = (Owing s, n, Err fault.Memory)

-- what it counts
abbrev pub counts_of : Found → GetCounts
counts_of found = (reply_of found).1

-- a letter that was found is of the place
abbrev pub IsOfPlace : ℕ → Found → Type 0
IsOfPlace k (FromCache c l) = l.place ≡ k
IsOfPlace k (Uncopied c) = Unit {0}
IsOfPlace k (Unmade c) = Unit {0}
IsOfPlace k (Spent c) = Unit {0}
IsOfPlace k (Joined c l) = l.place ≡ k
IsOfPlace k (Led (Done c l) n) = l.place ≡ k
IsOfPlace k (Led (Held s) n) = Unit {0}

-- and its value may be of the key
abbrev pub IsOfKey : List ℕ → Found → Type 0
IsOfKey key (FromCache c l) = MayBe l.value.spot key
IsOfKey key (Uncopied c) = Unit {0}
IsOfKey key (Unmade c) = Unit {0}
IsOfKey key (Spent c) = Unit {0}
IsOfKey key (Joined c l) = MayBe l.value.spot key
IsOfKey key (Led (Done c l) n) = MayBe l.value.spot key
IsOfKey key (Led (Held s) n) = Unit {0}
