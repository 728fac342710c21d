-- Of the code of a thread alone all is known that the rows need.
use Rattle.std.proofs.Common.{ℕ, suc, inr, List, [], ◌∷◌}
use Rattle.builtin_world.specs.declared.number.TheConstants.{OBJECT}
use Rattle.code_decode.specs.declared.code.ClassUnit.{ClassUnit}
use Rattle.link_rules.specs.FixedObjects.{class_object}
use Rattle.link_rules.specs.Names.{program_names}
use Rattle.link_types.specs.declared.types.ObjectType.TheVariants.{Class}
use Rattle.row_soundness.specs.Senses.{Content, number, reference, WordFits}
use Rattle.row_soundness.specs.Knowledge.{Knows, HasWords, contents_of, element_place, element_contents}
use Rattle.row_soundness.specs.Kinds.{kinds}
use Rattle.row_soundness.proofs.TextsMade.{MakesTexts, plain_text}

module _ (us : List ClassUnit) where
  all_words : (r i : ℕ) (ks : List Content) → HasWords (kinds us) tt r i ks
  all_words r i [] = tt
  all_words r i (k ∷ ks) = (tt, all_words r (suc i) ks)

  all_fit : (v : ℕ) (k : Content) → WordFits (kinds us) tt v k
  all_fit v number = λ exact. absurd exact
  all_fit v (reference t) = inr tt

  kinds_make_texts : MakesTexts (kinds us) us
  kinds_make_texts = record {
    itself = λ h. tt;
    both = λ h h' h'' more more'. tt;
    fits = λ h op reply come. come;
    asks = λ res h op k follows may next. (follows, (may, next));
    of_more = λ h h' r more is. tt;
    exactly_more = λ h h' r c n more is. tt;
    string_more = λ h h' r more is. tt;
    makes = λ h c n can. can;
    array = λ h c n r can type come. tt;
    exactly = λ h c n r come. tt;
    string = λ h r can come. tt;
    unit = λ h r c n i v is exactly within small. tt;
    name = λ h s r is of. tt;
  }

  pub kinds_know : Knows (kinds us) us
  kinds_know = record {
    itself = λ h. tt;
    both = λ h h' h'' more more'. tt;
    there_more = λ h h' r more is. tt;
    raw_more = λ h h' r t more is. tt;
    of_more = λ h h' r t more is. tt;
    exactly_more = λ h h' r c n more is. tt;
    thrown_more = λ h h' r c more is. tt;
    word_more = λ h h' r i k more is. tt;
    text_more = λ h h' r more is. tt;
    want_more = λ h h' op more is. is;
    asks = λ res b h op k follows none may next. (follows, (may, next));
    asks_more = λ res b h h' op k more fits. (fits.0, (fits.1.0, λ h'' reply more' come. fits.1.1 h'' reply tt come));
    fits = λ h op reply come. come;
    small = λ h r is exact. absurd exact;
    up = λ h r s t is e. tt;
    raw_of = λ h r t is. tt;
    raw_super = λ h r c file is. tt;
    there_of = λ h r t is. tt;
    set = λ h r c d raw is. tt;
    looks = λ h r is. tt;
    enters = λ h r is. tt;
    exits = λ h r is. tt;
    waits = λ h r is. tt;
    rewakes = λ h r is. tt;
    notifies = λ h r is. tt;
    prints = λ h line fits. tt;
    starts = λ h r p is may. tt;
    joins = λ h r is. tt;
    inits = λ h c file. file;
    settles = λ h c ok file. file;
    ends = λ h x. tt;
    makes = λ h c n can. can;
    made = λ h c n r can come. tt;
    made_array = λ h c n r can array come. tt;
    made_object = λ h r c right is. tt;
    made_throwable = λ h r c below is. tt;
    made_thread = λ h r p is may come. tt;
    made_thrown = λ h c r throwable come. tt;
    made_exactly = λ h c n r come. tt;
    reads = λ h r i k has. tt;
    read = λ h r i v k has come. all_fit v k;
    writes = λ h r i v k has fits. tt;
    fields = λ h r f is raw. all_words r f.place (contents_of f.kind);
    statics = λ h f is. all_words (class_object (program_names us) f.owner) f.place (contents_of f.kind);
    target = λ h r is. tt;
    message = λ h r is. tt;
    text = λ h r is. tt;
    asks_text = λ h r is. tt;
    units = λ h r v is come. inr tt;
    text_there = λ h r is. tt;
    asks_unit = λ h r c n i is exactly within. tt;
    makes_text = λ res h c units k can past type can_string words on. plain_text (kinds us) us kinds_make_texts res h c units k can type can_string words on;
    priorities = λ p low high. tt;
    priority_words = λ p is exact. absurd exact;
    asks_priority = λ h r is. tt;
    priority = λ h r p is come. tt;
    sets_priority = λ h r p is may. tt;
    exactly = λ h r c n come. tt;
    length_fits = λ h r c n is exact. absurd exact;
    thrown = λ h r c n is exactly. tt;
    caught = λ h r c d is below. tt;
    cast = λ h r c n d is exactly below. tt;
    own = λ h r c n is exactly. tt;
    caught_all = λ h r c is. tt;
    selected = λ h r c n t id found is exactly private same. tt;
    class_objects = λ h c is. tt;
    literals = λ h n within. tt;
    arguments = λ h. tt;
    main_thread = λ h. tt;
    out = λ h. tt;
    elements = λ h r c n i kind s is of test exactly within. all_words r (element_place kind i) (element_contents kind);
    references = λ h r c n i s of test exactly within. (Class OBJECT, tt, record { up = λ h' v x more same is. tt; stored = λ h' v d m more is exactly takes. tt });
  }
