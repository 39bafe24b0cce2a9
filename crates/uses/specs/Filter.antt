-- What a contract sees of tagged records.
use Rattle.std.specs.Prelude.{ℕ, Bool, false, ◌&&◌, not, slice_get, vec_len}
use Rattle.std.specs.Option.{option_map_or}
use Rattle.hibitset.specs.Prelude.{has}
use Rattle.uses.specs.declared.filter.Tagged.{Tagged}

-- how many tags there are
abbrev pub tags_of : Tagged → ℕ
tags_of tagged = vec_len tagged.records

-- the record has the tag
abbrev pub is_tagged : Tagged → ℕ → ℕ → Bool
is_tagged tagged tag record_id = option_map_or (λ set. has set record_id) (slice_get tagged.records.items tag) false

-- the record has both tags, and not the third
abbrev pub is_wanted : Tagged → ℕ → ℕ → ℕ → ℕ → Bool
is_wanted tagged first second without record_id = is_tagged tagged first record_id && is_tagged tagged second record_id && not (is_tagged tagged without record_id)
