mod WrittenForms
