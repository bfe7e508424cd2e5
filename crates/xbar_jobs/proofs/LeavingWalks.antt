-- a call whose register is let go, by walks that make steps of their own
use Rattle.std.proofs.Common.{◌≡◌, ℕ, List, [], sym, ◌∙◌, Ok, Err}
use Rattle.{std.specs.Prelude.⊤, turns.specs.Script.seize, attempts.proofs.WalksOnWords.{live_end, live_read_with}}
use Rattle.{xbar_equip.specs.{Conn.conn_eq, Dialled.code_of, declared.conn.Conn.TheVariants.Group}, xbar_plan.specs.Tables.{Tables, route_of}}
use Rattle.xbar_jobs.specs.{Closing.{leave_effects, leaving, value_after}, Completing.{call, call_without}}
use Rattle.xbar_jobs.specs.{Script.{WalkState, Script, Wanted, as_if_made, conn_word, walk_on_words}, Sides.party_after, declared.decision.Decision.Decision}
use Rattle.xbar_jobs.{specs.declared.{decision.Leave.Leave, party.Party.Party}, proofs.WalksOnWords.{comes, goes_on, stops}}

module _ (plan : Tables) (calling : Party) (dialled : ℕ) (leave : Leave) where
  -- the call, by the words as they will be
  abbrev pub later : Script Decision
  later = call plan (party_after (leave_effects leave) calling) dialled (route_of plan (code_of dialled))

  as_later : (state : WalkState) (words : List ℕ)
      → walk_on_words [] (as_if_made (leave_effects leave) later) state words ≡ walk_on_words (leave_effects leave) later state words
  as_later state words = sym (live_read_with conn_eq conn_word 42 19 (value_after (leave_effects leave)) later state words)

  module _ (state more last : WalkState) (words after now : List ℕ) (held : ⊤)
      (own : walk_on_words [] (seize (Group leave.group)) state words ≡ comes (Ok held) more after) where
    -- the register is let go once it is decided
    pub call_decides : (decision : Decision) → walk_on_words (leave_effects leave) later more after ≡ comes (Ok decision) last now
        → walk_on_words [] (call_without plan calling dialled leave) state words ≡ comes (Ok (leaving leave decision)) last now
    unfolding call_without
    call_decides decision decides =
        goes_on [] (seize (Group leave.group)) _ state more words after held own
        ∙ goes_on [] (as_if_made (leave_effects leave) later) _ more last after now decision (as_later more after ∙ decides)
        ∙ live_end conn_eq conn_word 42 19 (value_after []) (leaving leave decision) last now

    -- what the call needs next, the walk needs next
    pub call_stops : (wanted : Wanted) → walk_on_words (leave_effects leave) later more after ≡ comes (Err wanted) last now
        → walk_on_words [] (call_without plan calling dialled leave) state words ≡ comes (Err wanted) last now
    unfolding call_without
    call_stops wanted wants =
        goes_on [] (seize (Group leave.group)) _ state more words after held own
        ∙ stops [] (as_if_made (leave_effects leave) later) _ more last after now wanted (as_later more after ∙ wants)
