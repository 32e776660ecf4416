-- Requests that were asked, one after another.
use Rattle.std.proofs.Common.{◌≡◌, ℕ, List, [], ◌∷◌, ◌++◌, Option, Some, refl, sym, ap, ◌∙◌, append_assoc, append-nil}
use Rattle.renderd_protocol.specs.declared.messages.Request.{Request}
use Rattle.farm_history.specs.declared.asks.Cmd.{Cmd}
use Rattle.farm_history.specs.declared.asks.AskAnswer.{AskAnswer}
use Rattle.farm_history.specs.Entries.{Entry, Ask}
use Rattle.front_loop.specs.Front.{with_acts}
use Rattle.session_front.specs.declared.asked.Asked.{Asked}
use Rattle.session_front.specs.Renderd.{answer_command, command_of, response_to, request_spot, with_wait, renderd_rules}
use Rattle.farm_history.specs.Past.{number_in}
use Rattle.session_front.specs.inner.Reads.{asks_in, requests_of, response_by, waits_after, Made, Halts, asks_by}

requests_of-append : (qs ps : List Asked) → requests_of (qs ++ ps) ≡ requests_of ps ++ requests_of qs
requests_of-append [] ps = sym (append-nil (requests_of ps))
requests_of-append (b ∷ qs) ps = ap (λ rs. rs ++ b.request ∷ []) (requests_of-append qs ps) ∙ append_assoc (requests_of ps) (requests_of qs) (b.request ∷ [])

response_by-append : (qs ps : List Asked) → response_by (qs ++ ps) ≡ response_by ps ++ response_by qs
response_by-append [] ps = sym (append-nil (response_by ps))
response_by-append (b ∷ qs) ps =
    ap (λ l. l ++ response_to (answer_command b.answer) b.request) (response_by-append qs ps)
    ∙ append_assoc (response_by ps) (response_by qs) (response_to (answer_command b.answer) b.request)

waits_after-append : (qs ps : List Asked) (ws : List (ℕ × Request)) → waits_after (qs ++ ps) ws ≡ waits_after qs (waits_after ps ws)
waits_after-append [] ps ws = refl
waits_after-append (b ∷ qs) ps ws = ap (with_wait (number_in b.answer) b.request) (waits_after-append qs ps ws)

-- a request that is asked is not skipped
one_asked : (r : Request) (command : Cmd) → command_of r.cmd ≡ Some command → asks_in (r ∷ []) ≡ r ∷ []
one_asked r command known = rw known

module _ (front : ℕ) (maps : List ℕ → Option ℕ) (c : ℕ) where
  with_acts-append : (qs ps : List Asked) (mine : List Entry) → with_acts (renderd_rules front maps) c (qs ++ ps) mine ≡ with_acts (renderd_rules front maps) c qs (with_acts (renderd_rules front maps) c ps mine)
  with_acts-append [] ps mine = refl
  with_acts-append (b ∷ qs) ps mine = ap (λ (es : List Entry). es ++ (renderd_rules front maps).entries c b) (with_acts-append qs ps mine)

  pub none_made : (mine : List Entry) (ws : List (ℕ × Request)) (response : List ℕ) → Made front maps c [] mine mine ws ws response response
  none_made mine ws response = record { acts = []; mine_is = refl; asks_are = refl; waits_are = refl; response_is = sym (append-nil response) }

  -- a request that was asked has its entry
  enters : (r : Request) (a : AskAnswer) (command : Cmd) (mine mine' : List Entry) → command_of r.cmd ≡ Some command → mine' ≡ mine ++ Ask (record { front = front; number = c }) command (request_spot maps r) a ∷ []
      → mine' ≡ mine ++ asks_by (record { front = front; number = c }) (command_of r.cmd) (request_spot maps r) a
  enters r a command mine mine' known is = is ∙ ap (λ o. mine ++ asks_by (record { front = front; number = c }) o (request_spot maps r) a) (sym known)

  pub one_made : (r : Request) (a : AskAnswer) (command : Cmd) (mine mine' : List Entry) (ws ws' : List (ℕ × Request)) (response response' : List ℕ) → command_of r.cmd ≡ Some command
      → mine' ≡ mine ++ Ask (record { front = front; number = c }) command (request_spot maps r) a ∷ [] → ws' ≡ with_wait (number_in a) r ws → response' ≡ response ++ response_to (answer_command a) r
      → Made front maps c (asks_in (r ∷ [])) mine mine' ws ws' response response'
  one_made r a command mine mine' ws ws' response response' known is waits_are response_is = record {
    acts = record { request = r; answer = a } ∷ [];
    mine_is = enters r a command mine mine' known is;
    asks_are = one_asked r command known;
    waits_are = waits_are;
    response_is = response_is;
  }

  -- it was asked, and no more is known of it
  pub one_halts : (r : Request) (a : AskAnswer) (command : Cmd) (mine mine' : List Entry) → command_of r.cmd ≡ Some command → mine' ≡ mine ++ Ask (record { front = front; number = c }) command (request_spot maps r) a ∷ []
      → Halts front maps c (asks_in (r ∷ [])) mine mine'
  one_halts r a command mine mine' known is = record { acts = record { request = r; answer = a } ∷ []; more = []; mine_is = enters r a command mine mine' known is; asks_are = one_asked r command known }

  -- nothing was asked
  pub halts_now : (asks : List Request) (mine mine' : List Entry) → mine' ≡ mine → Halts front maps c asks mine mine'
  halts_now asks mine mine' is = record { acts = []; more = asks; mine_is = is; asks_are = refl }

  module _ (ps qs : List Request) (m0 m1 m2 : List Entry) (w0 w1 w2 : List (ℕ × Request)) (s0 s1 s2 : List ℕ) where
    -- some requests, and then others
    pub made_more : Made front maps c ps m0 m1 w0 w1 s0 s1 → Made front maps c qs m1 m2 w1 w2 s1 s2 → Made front maps c (ps ++ qs) m0 m2 w0 w2 s0 s2
    made_more x y = record {
      acts = y.acts ++ x.acts;
      mine_is = y.mine_is ∙ (ap (with_acts (renderd_rules front maps) c y.acts) x.mine_is ∙ sym (with_acts-append y.acts x.acts m0));
      asks_are = ap (λ l. l ++ qs) x.asks_are ∙ (ap (λ l. requests_of x.acts ++ l) y.asks_are ∙ sym (requests_of-append y.acts x.acts));
      waits_are = y.waits_are ∙ (ap (waits_after y.acts) x.waits_are ∙ sym (waits_after-append y.acts x.acts w0));
      response_is = y.response_is ∙ (ap (λ l. l ++ response_by y.acts) x.response_is ∙ (append_assoc s0 (response_by x.acts) (response_by y.acts) ∙ ap (λ l. s0 ++ l) (sym (response_by-append y.acts x.acts))));
    }

    pub halts_more : Made front maps c ps m0 m1 w0 w1 s0 s1 → Halts front maps c qs m1 m2 → Halts front maps c (ps ++ qs) m0 m2
    halts_more x y = record {
      acts = y.acts ++ x.acts;
      more = y.more;
      mine_is = y.mine_is ∙ (ap (with_acts (renderd_rules front maps) c y.acts) x.mine_is ∙ sym (with_acts-append y.acts x.acts m0));
      asks_are = ap (λ l. l ++ qs) x.asks_are
          ∙ (ap (λ l. requests_of x.acts ++ l) y.asks_are ∙ (sym (append_assoc (requests_of x.acts) (requests_of y.acts) y.more) ∙ ap (λ l. l ++ y.more) (sym (requests_of-append y.acts x.acts))));
    }

  pub halts_before : (ps qs : List Request) (m0 m1 : List Entry) → Halts front maps c ps m0 m1 → Halts front maps c (ps ++ qs) m0 m1
  halts_before ps qs m0 m1 h = record { acts = h.acts; more = h.more ++ qs; mine_is = h.mine_is; asks_are = ap (λ l. l ++ qs) h.asks_are ∙ append_assoc (requests_of h.acts) h.more qs }
