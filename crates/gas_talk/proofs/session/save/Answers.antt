use Rattle.std.proofs.Common.{◌≡◌, ◌∷◌, [], ℕ, List, length, Ok, ap, sym, ◌∙◌, refl, inl, inr, subst}
use Rattle.gas_text.specs.declared.reply.Reply.TheVariants.{Saved}
use Rattle.gas_snapshot.specs.Shelved.{Gains}
use Rattle.gas_talk.specs.Talk.{put_done, put_failed, snapshot}
use Rattle.gas_talk.proofs.session.save.Goals as goal

pub returns-in-Ok-put-clause-saved : goal.returns-in-Ok-put-clause-saved
returns-in-Ok-put-clause-saved g c =
    let bytes : c.as_slice.result.now ≡ snapshot c.in-Ok.copied = c.as_slice.ensures.value ∙ c.in-Ok-encode.ensures in
    let len : c.len.result ≡ length (snapshot c.in-Ok.copied) = c.len.ensures ∙ sym c.as_slice.ensures.len ∙ ap length bytes in
    let done = c.in-Ok-put.ensures.ok in (
      Ok c.in-Ok.copied,
      put_done (snapshot c.in-Ok.copied),
      c.in-Ok.ensures.copied,
      inl (ap (λ n. Saved c.in-Ok.copied.entries n) len, refl),
      done.0,
      subst (λ (taken : List ℕ). Gains (g.K.Shelf.shelved c.args.shelf.now) (g.K.Shelf.shelved c.put.new.self) (taken ∷ [])) bytes done.1,
    )

pub returns-clause-saved : goal.returns-clause-saved
returns-clause-saved g c =
    let failed = c.in-Err-put.ensures.err in
    (Ok c.in-Ok.copied, put_failed, c.in-Ok.ensures.copied, inr (inl (refl, refl)), failed.0, failed.1)
