-- What a world keeps of its calls, walks and words, and how its past tells it.
use Rattle.std.specs.Prelude.{◌≡◌, ℕ, ◌<◌, ◌↔◌, Bool, cond, Option, Some, None, List, [], ◌∷◌, IsTrue}
use Rattle.std.specs.BTreeMap.{get}
use Rattle.std.specs.Ordering.{nat_cmp}
use Rattle.hibitset_base.specs.Cursor.{cursor_places}
use Rattle.hibitset_base.specs.Places.{Place}
use Rattle.hibitset_atomic.specs.declared.layers.TheConstants.{ATOMIC_LAYERS}
use Rattle.hibitset_atomic.specs.declared.steps.calls.Call.{Call}
use Rattle.hibitset_atomic.specs.declared.steps.calls.Calls.{Calls}
use Rattle.hibitset_atomic.specs.declared.steps.walks.Progress.{Progress}
use Rattle.hibitset_atomic.specs.declared.steps.walks.Walks.{Walks}
use Rattle.hibitset_atomic.specs.declared.steps.event.Event.{Event}
use Rattle.hibitset_atomic.specs.LayerBits.{layer_bit}
use Rattle.hibitset_atomic.specs.Ahead.{words_below}
use Rattle.hibitset_atomic.specs.History.{Walk, top_word, read_first, IsAccepted, bit_of_history, call_of, walk_of}

-- the call of a number
abbrev pub call_in : Calls → ℕ → Option Call
call_in s c = get nat_cmp s.map c

-- the words that a walk has left: the top one where it is new, and else those that its cursor has left
abbrev pub left_of : Progress → List Place
left_of s = cond s.is_new (top_word ATOMIC_LAYERS ∷ []) (words_below (cursor_places s.cursor))

-- what is seen of a walk
pub record Shown : Type 0 where
  pub items : List ℕ
  pub left : List Place

abbrev pub shown_progress : Option Progress → Option Shown
shown_progress None = None
shown_progress (Some s) = Some (record { items = s.items.items; left = left_of s })

abbrev pub walk_shown : Option Walk → Option Shown
walk_shown None = None
walk_shown (Some walk) = Some (record { items = walk.items; left = walk.left })

-- the walk of a number
abbrev pub shown_in : Walks → ℕ → Option Shown
shown_in s w = shown_progress (get nat_cmp s.map w)

-- after a read
abbrev pub read_shown : (ℕ → ℕ → Bool) → Option Shown → Option Shown
read_shown standing None = None
read_shown standing (Some s) = walk_shown (Some (read_first standing s.items 0 s.left))

-- the word that is first of those left
abbrev pub FirstWord : (ℕ → ℕ → ℕ) → List Place → ℕ → Type 0
FirstWord words [] word = Unit {0}
FirstWord words (p ∷ ps) word = word ≡ words p.layer p.position

-- what a read answers
abbrev pub Told : (ℕ → ℕ → ℕ) → Option Shown → Option Shown → ℕ → Bool → Type 0
Told words (Some old) (Some new) word ended = FirstWord words old.left word × (IsTrue ended ↔ (new.left ≡ []))
Told words (Some old) None word ended = ⊥
Told words None new word ended = Unit {0}

-- What a world keeps is what its past tells. How many words a walk has read no code counts, and so it is left out.
pub record IsOfPast (n : ℕ) (old : ℕ → Bool) (past : List Event) (words : ℕ → ℕ → ℕ) (calls : Calls) (walks : Walks) : Type 0 where
  pub accepted : IsAccepted n old past
  pub words_of_past : (l q : ℕ) → l < n → layer_bit words l q ≡ bit_of_history old past l q
  pub calls_of_past : (c : ℕ) → call_in calls c ≡ call_of past c
  pub walks_of_past : (w : ℕ) → shown_in walks w ≡ walk_shown (walk_of n old past w)
